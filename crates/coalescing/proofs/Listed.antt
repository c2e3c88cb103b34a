-- What a change of an index makes of its lists.
use Rattle.std.proofs.Common.{◌≡◌, ℕ, ◌+◌, ◌<◌, Bool, true, false, cond, ◌||◌, List, [], ◌∷◌, ◌++◌, filter, take, get_or, length, Option, None, Some, IsSome, refl, sym, ap, subst, ◌∙◌}
use Rattle.std.specs.Map.{lookup}
use Rattle.std.proofs.lemmas.List.Folds.{list_any_more}
use Rattle.alt_base.proofs.Lists.{filter_within}
use Rattle.coalescing.specs.declared.peer.Peer.{Peer}
use Rattle.coalescing.specs.contracts.peer.PeerPartialEq.TheImpl as derived
use Rattle.coalescing.specs.Lists.{items_of}
use Rattle.coalescing.specs.Peers.{peer_eq, is_among}
use Rattle.coalescing.proofs.Peers.{true_peer, same_peer}

-- what the index of peers says, by the test of peers

pub looked_up : (es : List (Peer × List ℕ)) (p : Peer) (found : Option (List ℕ)) → found ≡ lookup ((derived.eq-value).it p) es → found ≡ lookup (peer_eq p) es
looked_up es p found h = subst (λ (eq : Peer → Peer → Bool). found ≡ lookup (eq p) es) same_peer h

pub changed : (old new : List (Peer × List ℕ)) (key p : Peer) (v : Option (List ℕ)) → lookup ((derived.eq-value).it p) new ≡ cond ((derived.eq-value).it key p) v (lookup ((derived.eq-value).it p) old)
    → lookup (peer_eq p) new ≡ cond (peer_eq key p) v (lookup (peer_eq p) old)
changed old new key p v h = subst (λ (eq : Peer → Peer → Bool). lookup (eq p) new ≡ cond (eq key p) v (lookup (eq p) old)) same_peer h

pub same_lists : (old new : List (Peer × List ℕ)) → ((p : Peer) → items_of (lookup ((derived.eq-value).it p) new) ≡ items_of (lookup ((derived.eq-value).it p) old))
    → (p : Peer) → items_of (lookup (peer_eq p) new) ≡ items_of (lookup (peer_eq p) old)
same_lists old new h = subst (λ (eq : Peer → Peer → Bool). (p : Peer) → items_of (lookup (eq p) new) ≡ items_of (lookup (eq p) old)) same_peer h

pub appended : (old new : List (Peer × List ℕ)) (key : Peer) (number : ℕ)
    → ((p : Peer) → items_of (lookup ((derived.eq-value).it p) new) ≡ cond ((derived.eq-value).it key p) (items_of (lookup ((derived.eq-value).it p) old) ++ number ∷ []) (items_of (lookup ((derived.eq-value).it p) old)))
    → (p : Peer) → items_of (lookup (peer_eq p) new) ≡ cond (peer_eq key p) (items_of (lookup (peer_eq p) old) ++ number ∷ []) (items_of (lookup (peer_eq p) old))
appended old new key number h = subst (λ (eq : Peer → Peer → Bool). (p : Peer) → items_of (lookup (eq p) new) ≡ cond (eq key p) (items_of (lookup (eq p) old) ++ number ∷ []) (items_of (lookup (eq p) old))) same_peer h

pub found_there : {o : Option (List ℕ)} (xs : List ℕ) → Some xs ≡ o → IsSome o
found_there xs is = subst IsSome is found_one
  where
    found_one : IsSome (Some xs)
    found_one = refl

-- at a peer, which may be the one that is changed

same_there : (es : List (Peer × List ℕ)) (key p : Peer) → peer_eq key p ≡ true → lookup (peer_eq key) es ≡ lookup (peer_eq p) es
same_there es key p same = ap (λ (q : Peer). lookup (peer_eq q) es) (true_peer key p same)

-- its list was narrowed
pub narrowed : (test : ℕ → Bool) (es : List (Peer × List ℕ)) (key p : Peer) (list left : List ℕ) → Some list ≡ lookup (peer_eq key) es → left ≡ filter test list
    → items_of (cond (peer_eq key p) (Some left) (lookup (peer_eq p) es)) ≡ cond (peer_eq key p) (filter test (items_of (lookup (peer_eq p) es))) (items_of (lookup (peer_eq p) es))
narrowed test es key p list left is narrow = by_test (peer_eq key p) refl
  where
    by_test : (w : Bool) → peer_eq key p ≡ w → items_of (cond w (Some left) (lookup (peer_eq p) es)) ≡ cond w (filter test (items_of (lookup (peer_eq p) es))) (items_of (lookup (peer_eq p) es))
    by_test true same = narrow ∙ ap (λ o. filter test (items_of o)) (is ∙ same_there es key p same)
    by_test false same = refl

-- it has none
pub none_narrowed : (test : ℕ → Bool) (es : List (Peer × List ℕ)) (key p : Peer) → lookup (peer_eq key) es ≡ None
    → items_of (lookup (peer_eq p) es) ≡ cond (peer_eq key p) (filter test (items_of (lookup (peer_eq p) es))) (items_of (lookup (peer_eq p) es))
none_narrowed test es key p none = by_test (peer_eq key p) refl
  where
    by_test : (w : Bool) → peer_eq key p ≡ w → items_of (lookup (peer_eq p) es) ≡ cond w (filter test (items_of (lookup (peer_eq p) es))) (items_of (lookup (peer_eq p) es))
    by_test true same = let nothing = ap items_of (sym (same_there es key p same) ∙ none) in nothing ∙ sym (ap (filter test) nothing)
    by_test false same = refl

-- nothing was left in it, and it goes
pub emptied : (es : List (Peer × List ℕ)) (key p : Peer) → items_of (lookup (peer_eq key) es) ≡ [] → items_of (cond (peer_eq key p) None (lookup (peer_eq p) es)) ≡ items_of (lookup (peer_eq p) es)
emptied es key p none = by_test (peer_eq key p) refl
  where
    by_test : (w : Bool) → peer_eq key p ≡ w → items_of (cond w None (lookup (peer_eq p) es)) ≡ items_of (lookup (peer_eq p) es)
    by_test true same = sym (ap items_of (sym (same_there es key p same)) ∙ none)
    by_test false same = refl

-- a list that was narrowed at the peers so far, and is at one more

once_more : (so_far here : Bool) (test : ℕ → Bool) (xs : List ℕ) → cond here (filter test (cond so_far (filter test xs) xs)) (cond so_far (filter test xs) xs) ≡ cond (so_far || here) (filter test xs) xs
once_more true true test xs = filter_within test test xs (λ x h. h)
once_more true false test xs = refl
once_more false true test xs = refl
once_more false false test xs = refl

pub narrowed_so_far : (test : ℕ → Bool) (peers : List Peer) (i : ℕ) (d p : Peer) (before now new : List ℕ) → i < length peers → new ≡ cond (peer_eq (get_or peers i d) p) (filter test now) now
    → now ≡ cond (is_among (take i peers) p) (filter test before) before → new ≡ cond (is_among (take (i + 1) peers) p) (filter test before) before
narrowed_so_far test peers i d p before now new within is so_far =
    is
    ∙ ap (λ xs. cond (peer_eq (get_or peers i d) p) (filter test xs) xs) so_far
    ∙ once_more (is_among (take i peers) p) (peer_eq (get_or peers i d) p) test before
    ∙ ap (λ w. cond w (filter test before) before) (sym (list_any_more (λ (q : Peer). peer_eq q p) peers i d within))
