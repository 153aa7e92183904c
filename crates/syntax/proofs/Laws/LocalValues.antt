-- LocalValues: values and whole texts that begin alike are read alike.
use Rattle.std.specs.Prelude.{◌≡◌, refl, true, false, List, [], ◌∷◌, ◌++◌, ℕ, zero, suc, ◌+◌, ◌*◌, ◌≤◌, eqb, length}
use Rattle.std.proofs.Common.{subst, ◌∙◌, arith}
use Rattle.model.specs.Bytes.{Bytes}
use Rattle.model.specs.declared.refusal.ReadFault.{ReadFault}
use Rattle.model.specs.Size.{value_count}
use Rattle.model.specs.Value.{Value, scalar, array, object, string, no_items, item, no_members, member}
use Rattle.syntax.specs.declared.Start.{Start}
use Rattle.syntax.specs.declared.Word.{Word}
use Rattle.syntax.specs.declared.Separator.{Separator}
use Rattle.syntax.specs.Read.{bad, Parser, then, ◌>>=◌, give, if, peek, eat, white, literal, quoted, name, on_start, on_separator, value, items, members, ended, text}
use Rattle.syntax.specs.Tokens.{start_of, separator_of}
use Rattle.syntax.proofs.Laws.Agreement.{start, at_length, Alike}
use Rattle.syntax.proofs.Laws.Fuel.{fuel_text}
use Rattle.syntax.proofs.Laws.Local.{Decides, Claim, Local, local_then, local_give, local_if, local_peek, local_eat, local_white, local_map, local_literal, local_int, by_byte}
use Rattle.syntax.proofs.Laws.LocalStrings.{local_quoted, local_name}
use Rattle.syntax.proofs.Laws.Parsing.{separator_law, start_law, both_separator, both_start}
use Rattle.syntax.proofs.Laws.Progress.{Within, stays_ended}

module _ (s s' r w : Bytes) where
  local_inside :
      {A : Type 0} (close : ℕ) (nil : Value) (wrap : A → Value) (m : Parser A) → Local s s' r w m
      → Local s s' r w (eat (white (peek >>= λ c. if (eqb c close) (eat (give nil)) (λ u q. then (m u q) (λ a. give (wrap a))))))
  local_inside close nil wrap m f =
      local_eat s s' r w _ (local_white s s' r w _ (local_then s s' r w peek _ (local_peek s s' r w) (λ c. local_if s s' r w (eqb c close) _ _ (local_eat s s' r w _ (local_give s s' r w nil)) (local_map s s' r w m wrap f))))

  local_separator : {A : Type 0} (x : Separator) (m c : Parser A) → Local s s' r w m → Local s s' r w c → Local s s' r w (on_separator x m c)
  local_separator x m c f g = record {
    stays = λ t at h. separator_law (Within s at at) t at x m c (λ e. f.stays t at h) (λ e. g.stays t at h) (omega arith, omega (arith, at_length h));
    agrees = λ t u at h i e. both_separator (Claim s s' r w) t u at x m c m c (f.agrees t u at h i e) (g.agrees t u at h i e) (λ d. refl);
  }

  local_after :
      {A : Type 0} (close : ℕ) (one : A) (cons : A → A) (m : Parser A) → Local s s' r w m
      → Local s s' r w (white (peek >>= λ b. on_separator (separator_of close b) (eat (white (λ u q. then (m u q) (λ a. give (cons a))))) (eat (give one))))
  local_after close one cons m f =
      local_white s s' r w _ (local_then s s' r w peek _ (local_peek s s' r w) (λ b. local_separator (separator_of close b) _ _ (local_eat s s' r w _ (local_white s s' r w _ (local_map s s' r w m cons f))) (local_eat s s' r w _ (local_give s s' r w one))))

  local_start :
      (x : Start) (w₁ : Word → Parser Value) (m n x₁ x₂ x₃ : Parser Value) → ((k : Word) → Local s s' r w (w₁ k)) → Local s s' r w m → Local s s' r w n
      → Local s s' r w x₁ → Local s s' r w x₂ → Local s s' r w x₃ → Local s s' r w (on_start x w₁ m n x₁ x₂ x₃)
  local_start x w₁ m n x₁ x₂ x₃ h₁ h₂ h₃ h₄ h₅ h₆ = record {
    stays = λ t at h. start_law (Within s at at) t at x w₁ m n x₁ x₂ x₃ (omega arith, omega (arith, at_length h)) (λ e. (omega arith, omega (arith, at_length h)))
        (λ k e. (h₁ k).stays t at h) (λ e. h₂.stays t at h) (λ e. h₃.stays t at h) (λ e. h₄.stays t at h) (λ e. h₅.stays t at h) (λ e. h₆.stays t at h);
    agrees = λ t u at h i e. both_start (Claim s s' r w) t u at x w₁ w₁ m n x₁ x₂ x₃ m n x₁ x₂ x₃ (λ k d. refl)
        (λ k. (h₁ k).agrees t u at h i e) (h₂.agrees t u at h i e) (h₃.agrees t u at h i e) (h₄.agrees t u at h i e) (h₅.agrees t u at h i e) (h₆.agrees t u at h i e);
  }

  mutual
    unfolding value ◌>>=◌

    local_value : (f row depth : ℕ) → Local s s' r w (λ t at. value f row depth t at)
    local_value zero row depth = record { stays = λ t at h. (omega arith, omega (arith, at_length h)); agrees = λ t u at h i e d. refl }
    local_value (suc f) row depth =
        local_then s s' r w peek _ (local_peek s s' r w) (λ b. local_start (start_of row depth b) literal _ _ _ _ _
        (local_literal s s' r w)
        (local_eat s s' r w _ (local_int s s' r w true))
        (local_int s s' r w false)
        (local_then s s' r w (quoted f) _ (local_quoted s s' r w f) (λ bs. local_eat s s' r w _ (local_give s s' r w (scalar (string bs)))))
        (local_inside 0x5D (array no_items) array (λ t at. items f (suc row) (suc depth) t at) (local_items f (suc row) (suc depth)))
        (local_inside 0x7D (object no_members) object (λ t at. members f (suc row) (suc depth) [] t at) (local_members f (suc row) (suc depth) [])))

    local_items : (f row depth : ℕ) → Local s s' r w (λ t at. items f row depth t at)
    local_items zero row depth = record { stays = λ t at h. (omega arith, omega (arith, at_length h)); agrees = λ t u at h i e d. refl }
    local_items (suc f) row depth =
        local_then s s' r w (λ t at. value f row depth t at) _ (local_value f row depth)
        (λ v. local_after 0x5D (item v no_items) (item v) (λ t at. items f (row + value_count v) depth t at) (local_items f (row + value_count v) depth))

    local_members : (f row depth : ℕ) (seen : List Bytes) → Local s s' r w (λ t at. members f row depth seen t at)
    local_members zero row depth seen = record { stays = λ t at h. (omega arith, omega (arith, at_length h)); agrees = λ t u at h i e d. refl }
    local_members (suc f) row depth seen =
        local_then s s' r w (name f seen) _ (local_name s s' r w f seen)
        (λ n. local_white s s' r w _ (local_then s s' r w (λ t at. value f row depth t at) _ (local_value f row depth)
        (λ v. local_after 0x7D (member n v no_members) (member n v) (λ t at. members f (row + value_count v) depth (seen ++ (n ∷ [])) t at) (local_members f (row + value_count v) depth (seen ++ (n ∷ []))))))

  local_ended : (v : Value) → Local s s' r w (ended v)
  unfolding ended
  local_ended v = record { stays = stays_ended s v; agrees = by_byte s s' r w (ended v) (stays_ended s v) (λ b t u at h i e d. refl) }

  local_text : (f : ℕ) → Local s s' r w (text f)
  unfolding text
  local_text f = local_white s s' r w _ (local_then s s' r w (value f 0 0) _ (local_value f 0 0) (λ v. local_white s s' r w (ended v) (local_ended v)))

  -- A fault of s that what the two share decides is the fault of s', whatever numbers bound the steps.
  pub same_fault : Alike r w s s' → (k : ReadFault) (p f f' : ℕ) → 2 * length s + 1 ≤ f → 2 * length s' + 1 ≤ f' → text f s 0 ≡ bad k p → Decides s s' r w k p → text f' s' 0 ≡ bad k p
  same_fault a k p f f' l l' e d =
      let g = f + f' in
      let c : Claim s s' r w (text g s 0) (text g s' 0) = (local_text g).agrees s s' 0 start start a in
      let e₁ : text g s 0 ≡ bad k p = fuel_text g f s 0 (omega arith) l ∙ e in
      fuel_text f' g s' 0 l' (omega arith) ∙ subst (λ x. Claim s s' r w x (text g s' 0)) e₁ c d
