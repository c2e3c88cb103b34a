-- There is one list of the served origins in their order.
use Rattle.std.proofs.Common.{◌≡◌, ℕ, zero, suc, Bool, true, false, ◌||◌, List, [], ◌∷◌, Option, Some, None, All, refl, ap, sym, subst, ◌∙◌, arith, true≢false}
use Rattle.std.specs.List.{list_any, AllPairs}
use Rattle.std.proofs.lemmas.List.Elements.{All-head, All-tail}
use Rattle.origin_values.specs.Equality.{origin_eq}
use Rattle.origin_values.specs.declared.origin.Origin.{Origin}
use Rattle.advertiser_core.specs.Acts.{Act}
use Rattle.advertiser_core.specs.ServedList.{served_since, served_list, IsEarlier, IsServedList}
use Rattle.origin_values.proofs.Equal.{one_origin, origin_self, turned_origin}
use Rattle.advertiser_core.proofs.ServedLists.{IsEarlierIn, list_is}

not_earlier_both : (s t : Option ℕ) → IsEarlier s t → IsEarlier t s → ⊥
not_earlier_both None t h k = h
not_earlier_both (Some j) None h k = h
not_earlier_both (Some j) (Some m) h k = omega arith

module _ (acts : List Act) where
  tail_ordered : (x : Origin) (xs : List Origin) → AllPairs (IsEarlierIn acts) (x ∷ xs) → AllPairs (IsEarlierIn acts) xs
  tail_ordered x xs h = λ i j d u w. h (suc i) (suc j) d (omega arith) (omega arith)

  head_first : (x : Origin) (xs : List Origin) → AllPairs (IsEarlierIn acts) (x ∷ xs) → All (IsEarlierIn acts x) xs
  head_first x xs h = λ k d w. h zero (suc k) d (omega arith) (omega arith)

  earlier_than : (x q : Origin) (xs : List Origin) → All (IsEarlierIn acts x) xs → list_any (origin_eq q) xs ≡ true → IsEarlierIn acts x q
  earlier_than x q [] all h = absurd (true≢false (sym h))
  earlier_than x q (p ∷ xs) all h = by_test (origin_eq q p) refl h (earlier_than x q xs (All-tail (IsEarlierIn acts x) p xs all))
    where
      by_test : (t : Bool) → origin_eq q p ≡ t → (t || list_any (origin_eq q) xs) ≡ true → (list_any (origin_eq q) xs ≡ true → IsEarlierIn acts x q) → IsEarlierIn acts x q
      by_test true e h rest = subst (IsEarlierIn acts x) (sym ((one_origin q p).0 e)) (All-head (IsEarlierIn acts x) p xs all)
      by_test false e h rest = rest h

  once : (x : Origin) (xs : List Origin) → AllPairs (IsEarlierIn acts) (x ∷ xs) → list_any (origin_eq x) xs ≡ false
  once x xs h = by_test (list_any (origin_eq x) xs) refl
    where
      by_test : (t : Bool) → list_any (origin_eq x) xs ≡ t → t ≡ false
      by_test false e = refl
      by_test true e = let r = earlier_than x x xs (head_first x xs h) e in absurd (not_earlier_both (served_since acts x) (served_since acts x) r r)

  -- two of the same members begin with the same one
  one_head : (x y : Origin) (xs ys : List Origin) → AllPairs (IsEarlierIn acts) (x ∷ xs) → AllPairs (IsEarlierIn acts) (y ∷ ys)
      → ((o : Origin) → list_any (origin_eq o) (x ∷ xs) ≡ list_any (origin_eq o) (y ∷ ys)) → origin_eq x y ≡ true
  one_head x y xs ys h k same = by_test (origin_eq x y) refl
    where
      among : (a b : Origin) (bs : List Origin) (t : Bool) → origin_eq a b ≡ false → t ≡ (origin_eq a b || list_any (origin_eq a) bs) → t ≡ true → list_any (origin_eq a) bs ≡ true
      among a b bs t e f g = sym (ap (λ u. u || list_any (origin_eq a) bs) e) ∙ sym f ∙ g

      by_test : (t : Bool) → origin_eq x y ≡ t → t ≡ true
      by_test true e = refl
      by_test false e =
          let x_there = among x y ys (list_any (origin_eq x) (x ∷ xs)) e (same x) (ap (λ u. u || list_any (origin_eq x) xs) (origin_self x)) in
          let y_there = among y x xs (list_any (origin_eq y) (y ∷ ys)) (turned_origin y x ∙ e) (sym (same y)) (ap (λ u. u || list_any (origin_eq y) ys) (origin_self y)) in
          absurd (not_earlier_both (served_since acts x) (served_since acts y)
          (earlier_than x y xs (head_first x xs h) y_there) (earlier_than y x ys (head_first y ys k) x_there))

  same_tails : (x : Origin) (xs ys : List Origin) → AllPairs (IsEarlierIn acts) (x ∷ xs) → AllPairs (IsEarlierIn acts) (x ∷ ys)
      → ((o : Origin) → list_any (origin_eq o) (x ∷ xs) ≡ list_any (origin_eq o) (x ∷ ys)) → (o : Origin) → list_any (origin_eq o) xs ≡ list_any (origin_eq o) ys
  same_tails x xs ys h k same o = by_test (origin_eq o x) refl (same o)
    where
      by_test : (t : Bool) → origin_eq o x ≡ t → (t || list_any (origin_eq o) xs) ≡ (t || list_any (origin_eq o) ys) → list_any (origin_eq o) xs ≡ list_any (origin_eq o) ys
      by_test true e f = subst (λ p. list_any (origin_eq p) xs ≡ list_any (origin_eq p) ys) (sym ((one_origin o x).0 e)) (once x xs h ∙ sym (once x ys k))
      by_test false e f = f

  one_list : (xs ys : List Origin) → AllPairs (IsEarlierIn acts) xs → AllPairs (IsEarlierIn acts) ys
      → ((o : Origin) → list_any (origin_eq o) xs ≡ list_any (origin_eq o) ys) → xs ≡ ys
  one_list [] [] h k same = refl
  one_list [] (y ∷ ys) h k same = absurd (true≢false (sym (same y ∙ ap (λ u. u || list_any (origin_eq y) ys) (origin_self y))))
  one_list (x ∷ xs) [] h k same = absurd (true≢false (sym (sym (same x) ∙ ap (λ u. u || list_any (origin_eq x) xs) (origin_self x))))
  one_list (x ∷ xs) (y ∷ ys) h k same =
      let head : y ≡ x = sym ((one_origin x y).0 (one_head x y xs ys h k same)) in
      let l : AllPairs (IsEarlierIn acts) (x ∷ ys) = subst (λ z. AllPairs (IsEarlierIn acts) (z ∷ ys)) head k in
      let also = same_tails x xs ys h l (λ o. same o ∙ ap (λ z. origin_eq o z || list_any (origin_eq o) ys) head) in
      (λ i. x ∷ one_list xs ys (tail_ordered x xs h) (tail_ordered x ys l) also i) ∙ ap (λ z. z ∷ ys) (sym head)

  pub only_list : (origins : List Origin) → IsServedList acts origins → origins ≡ served_list acts
  only_list origins h = one_list origins (served_list acts) h.ordered (list_is acts).ordered (λ o. h.members o ∙ sym ((list_is acts).members o))
