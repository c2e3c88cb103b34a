-- Names that differ.
use Rattle.std.proofs.Common.{◌≡◌, ◌≢◌, suc, ◌<◌, Bool, true, false, ◌||◌, List, [], ◌∷◌, ◌++◌, length, get_or, refl, sym, ◌∙◌, ap, arith}
use Rattle.std.specs.List.{AllPairs}
use Rattle.std.proofs.lemmas.List.Folds.{list_any_at}
use Rattle.std.proofs.lemmas.List.Quantifiers.{all_pairs_push}
use Rattle.dns_names.specs.Names.{name_eq}
use Rattle.dns_names.proofs.SameNames.{name_decides}
use Rattle.alias_chain.specs.Walk.{NameOf}
use Rattle.alias_chain.specs.Following.{is_among}

abbrev pub AllDiffer : List NameOf → Type 0
AllDiffer names = AllPairs (λ (a b : NameOf). a ≢ b) names

-- a name that isn't among others differs from each
pub differ_push : (names : List NameOf) (name : NameOf) → AllDiffer names → is_among name names ≡ false → AllDiffer (names ++ name ∷ [])
differ_push names name differ apart =
    all_pairs_push (λ (a b : NameOf). a ≢ b) names name differ
    (λ k d h e. let found : is_among name names ≡ true = list_any_at (name_eq name) names k d h ((name_decides name (get_or names k d)).1 (sym e)) in cc)

other_name : (a b : NameOf) → a ≢ b → name_eq b a ≡ false
other_name a b apart = by_test (name_eq b a) refl
  where
    by_test : (t : Bool) → name_eq b a ≡ t → t ≡ false
    by_test false is = refl
    by_test true is = absurd (apart (sym ((name_decides b a).0 is)))

at_middle : (before : List NameOf) (name : NameOf) (rest : List NameOf) (d : NameOf) → get_or (before ++ name ∷ rest) (length before) d ≡ name
at_middle [] name rest d = refl
at_middle (b ∷ before) name rest d = at_middle before name rest d

differ_tail : (name : NameOf) (names : List NameOf) → AllDiffer (name ∷ names) → AllDiffer names
differ_tail name names differ = λ i j d h k. differ (suc i) (suc j) d (omega arith) (omega arith)

-- where all names differ, one isn't among those before it
pub not_before : (before : List NameOf) (name : NameOf) (rest : List NameOf) → AllDiffer (before ++ name ∷ rest) → is_among name before ≡ false
not_before [] name rest differ = refl
not_before (b ∷ before) name rest differ =
    let here : b ≢ name = λ e. differ 0 (suc (length before)) b (omega arith) (reaches before) (e ∙ sym (at_middle before name rest b)) in
    ap (λ t. t || is_among name before) (other_name b name here) ∙ not_before before name rest (differ_tail b (before ++ name ∷ rest) differ)
  where
    reaches : (names : List NameOf) → suc (length names) < length (b ∷ (names ++ name ∷ rest))
    reaches [] = omega arith
    reaches (n ∷ names) = let more = reaches names in omega arith
