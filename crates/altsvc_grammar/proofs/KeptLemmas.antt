-- Keeping an alternative in a map from keys.
use Rattle.std.proofs.Common.{◌≡◌, Bool, true, false, List, [], ◌∷◌, ◌++◌, refl, ap, sym, ◌∙◌}
use Rattle.std.specs.List.{list_any}
use Rattle.std.specs.Option.{is_some}
use Rattle.std.specs.Map.{lookup}
use Rattle.indexmap.specs.IndexMap.{insert_entry}
use Rattle.altsvc_grammar.specs.declared.alt_key.AltKey.{AltKey}
use Rattle.altsvc_grammar.specs.declared.terms.Terms.{Terms}
use Rattle.altsvc_grammar.specs.Keys.{key_eq}
use Rattle.altsvc_grammar.specs.ValueReading.{keep}

module _ (eq : AltKey → AltKey → Bool) (same : (a b : AltKey) → eq a b ≡ key_eq a b) (key : AltKey) where
  abbrev there : List (AltKey × Terms) → Bool
  there es = list_any (λ (e : AltKey × Terms). key_eq key e.0) es

  pub looked_up : (es : List (AltKey × Terms)) → is_some (lookup (eq key) es) ≡ there es
  looked_up [] = refl
  looked_up (e ∷ es) = go (key_eq key e.0) (same key e.0) refl (looked_up es)
    where
      go : (t : Bool) → eq key e.0 ≡ t → key_eq key e.0 ≡ t → is_some (lookup (eq key) es) ≡ there es → is_some (lookup (eq key) (e ∷ es)) ≡ there (e ∷ es)
      go true is is' rest = rw (is, is') refl
      go false is is' rest = rw (is, is') rest

  pub put_last : (terms : Terms) (es : List (AltKey × Terms)) → there es ≡ false → insert_entry eq es key terms ≡ es ++ (key, terms) ∷ []
  put_last terms [] none = refl
  put_last terms (e ∷ es) none = go (key_eq key e.0) (same key e.0) refl none (put_last terms es)
    where
      go : (t : Bool) → eq key e.0 ≡ t → key_eq key e.0 ≡ t → there (e ∷ es) ≡ false → (there es ≡ false → insert_entry eq es key terms ≡ es ++ (key, terms) ∷ []) → insert_entry eq (e ∷ es) key terms ≡ (e ∷ es) ++ (key, terms) ∷ []
      go true is is' none rest = let clash : true ≡ false = rw is' at none in cc
      go false is is' none rest = rw is (ap (λ xs. e ∷ xs) (rest (rw is' at none)))

  -- a key that isn't there
  pub kept_last : (terms : Terms) (es : List (AltKey × Terms)) → is_some (lookup (eq key) es) ≡ false → insert_entry eq es key terms ≡ keep es key terms
  kept_last terms es none =
      let absent : there es ≡ false = sym (looked_up es) ∙ none in
      put_last terms es absent ∙ rw absent refl

  -- a key that is there
  pub kept_as_it_is : (terms : Terms) (es : List (AltKey × Terms)) → is_some (lookup (eq key) es) ≡ true → es ≡ keep es key terms
  kept_as_it_is terms es some =
      let present : there es ≡ true = sym (looked_up es) ∙ some in
      rw present refl
