use native.Mathlib.Omega.{arith}
use lib.ListN.{length-set}
use Rattle.chars.proofs.Utf8.{put_one, put_two, put_three, put_four}
use Rattle.chars.proofs.put_utf8.Goals as goal

pub returns-then-u-lt128 : goal.returns-then-u-lt128
returns-then-u-lt128 c = put_one _ _ _ c.if-u-lt128.true

pub bounds-strings-used-then-u-lt2048-2 : goal.bounds-strings-used-then-u-lt2048-2
bounds-strings-used-then-u-lt2048-2 c = simp length-set (omega arith)

pub returns-then-u-lt2048 : goal.returns-then-u-lt2048
returns-then-u-lt2048 c = put_two _ _ _ c.if-u-lt128.false c.if-u-lt2048.true

pub bounds-strings-used-then-u-lt65536-2 : goal.bounds-strings-used-then-u-lt65536-2
bounds-strings-used-then-u-lt65536-2 c = simp length-set (omega arith)

pub bounds-strings-used-then-u-lt65536-3 : goal.bounds-strings-used-then-u-lt65536-3
bounds-strings-used-then-u-lt65536-3 c = simp length-set (omega arith)

pub returns-then-u-lt65536 : goal.returns-then-u-lt65536
returns-then-u-lt65536 c = put_three _ _ _ c.if-u-lt2048.false c.if-u-lt65536.true

pub bounds-strings-used-3 : goal.bounds-strings-used-3
bounds-strings-used-3 c = simp length-set (omega arith)

pub bounds-strings-used-4 : goal.bounds-strings-used-4
bounds-strings-used-4 c = simp length-set (omega arith)

pub bounds-strings-used-5 : goal.bounds-strings-used-5
bounds-strings-used-5 c = simp length-set (omega arith)

pub returns : goal.returns
returns c = put_four _ _ _ c.if-u-lt65536.false
