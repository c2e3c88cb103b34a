-- Names as keys: their equality is one, and agrees with their order.
use Rattle.std.proofs.Common.{◌≡◌, ℕ, List, Some, refl}
use Rattle.std.specs.Cmp.{IsEquivalence}
use Rattle.std.specs.Cmp.Lexicographic.{lists_equiv, nat_list_eq_equiv, lists_agrees, lists_ties, slice_cmp, texts_ties}
use Rattle.std.specs.Ordering.{nat_cmp, is_eq}
use Rattle.dns_names.specs.Names.{name_eq}
use Rattle.answer_store.specs.Names.{name_cmp, name_partial_cmp}

pub same_names : IsEquivalence name_eq
same_names = lists_equiv nat_list_eq_equiv

pub matches : (x y : List (List ℕ)) → name_eq x y ≡ is_eq (name_cmp x y)
matches = lists_ties (slice_cmp nat_cmp) texts_ties

pub orders_agree : (x y : List (List ℕ)) → name_partial_cmp x y ≡ Some (name_cmp x y)
orders_agree = lists_agrees {R = slice_cmp nat_cmp} (lists_agrees {R = nat_cmp} (λ x y. refl))
