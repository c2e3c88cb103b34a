-- Each number is noted with the peers where it stands, behind an insertion and behind a removal.
use Rattle.std.proofs.Common.{◌≡◌, ℕ, Bool, true, false, cond, not, ◌||◌, ◌&&◌, nat_eq, List, [], ◌∷◌, ◌++◌, filter, Option, None, Some, Result, Ok, Err, OnOk, OnErr, refl, sym, ap, ◌∙◌}
use Rattle.std.specs.List.{list_any}
use Rattle.std.proofs.lemmas.Cmp.{nat_eq_equiv}
use Rattle.std.proofs.lemmas.List.Folds.{list_any-append}
use Rattle.std.proofs.lemmas.Map.Views.{any-filter_same}
use Rattle.alt_base.proofs.Numbers.{true_eq}
use Rattle.alt_base.proofs.Booleans.{contradicts, first_of_neither, second_of_neither}
use Rattle.coalescing.specs.declared.peer.Peer.{Peer}
use Rattle.coalescing.specs.Lists.{items_of}
use Rattle.coalescing.specs.Peers.{peer_eq, is_among}
use Rattle.coalescing.specs.ByAddress.{is_other}

-- behind an insertion

at_last : (a b : Bool) → (a || (b || false)) ≡ (a || b)
at_last a true = refl
at_last a false = refl

any_appended : {X : Type 0} (t : X → Bool) (w : Bool) (xs : List X) (x : X) → list_any t (cond w (xs ++ x ∷ []) xs) ≡ cond w (list_any t xs || t x) (list_any t xs)
any_appended t true xs x = list_any-append t xs (x ∷ []) ∙ at_last (list_any t xs) (t x)
any_appended t false xs x = refl

entered : (w x a b : Bool) → (a ≡ true → b ≡ true) → cond w (a || x) a ≡ true → cond x (b || w) b ≡ true
entered true true a true noted h = refl
entered true true a false noted h = refl
entered true false true b noted h = noted refl
entered true false false b noted h = noted h
entered false true a true noted h = refl
entered false true a false noted h = noted h
entered false false a b noted h = noted h

still : (w x b : Bool) → b ≡ true → cond x (b || w) b ≡ true
still w true true h = refl
still w true false h = cc
still w false b h = h

noted_behind : (conn n : ℕ) (peer p : Peer) (numbers : List ℕ) (peers : List Peer) → (list_any (nat_eq n) numbers ≡ true → is_among peers p ≡ true)
    → list_any (nat_eq n) (cond (peer_eq peer p) (numbers ++ conn ∷ []) numbers) ≡ true → is_among (cond (nat_eq conn n) (peers ++ peer ∷ []) peers) p ≡ true
noted_behind conn n peer p numbers peers noted h =
    let has : Bool = list_any (nat_eq n) numbers in
    let inside : cond (peer_eq peer p) (has || nat_eq conn n) has ≡ true = ap (λ b. cond (peer_eq peer p) (has || b) has) (nat_eq_equiv.symm conn n) ∙ sym (any_appended (nat_eq n) (peer_eq peer p) numbers conn) ∙ h in
    any_appended (λ (q : Peer). peer_eq q p) (nat_eq conn n) peers peer ∙ entered (peer_eq peer p) (nat_eq conn n) has (is_among peers p) noted inside

-- where the number was noted, and then found no memory
noted_before : (conn n : ℕ) (peer p : Peer) (peers : List Peer) → is_among peers p ≡ true → is_among (cond (nat_eq conn n) (peers ++ peer ∷ []) peers) p ≡ true
noted_before conn n peer p peers h = any_appended (λ (q : Peer). peer_eq q p) (nat_eq conn n) peers peer ∙ still (peer_eq peer p) (nat_eq conn n) (is_among peers p) h

pub noted_either : {T E : Type 0} (r : Result T E) (conn n : ℕ) (peer p : Peer) (numbers new : List ℕ) (peers : List Peer) → OnOk r (new ≡ cond (peer_eq peer p) (numbers ++ conn ∷ []) numbers) → OnErr r (new ≡ numbers)
    → (list_any (nat_eq n) numbers ≡ true → is_among peers p ≡ true) → list_any (nat_eq n) new ≡ true → is_among (cond (nat_eq conn n) (peers ++ peer ∷ []) peers) p ≡ true
noted_either (Ok x) conn n peer p numbers new peers placed same noted h = noted_behind conn n peer p numbers peers noted (sym (ap (list_any (nat_eq n)) placed) ∙ h)
noted_either (Err e) conn n peer p numbers new peers placed same noted h = noted_before conn n peer p peers (noted (sym (ap (list_any (nat_eq n)) same) ∙ h))

-- behind a removal

left : (conn n : ℕ) (numbers : List ℕ) → list_any (nat_eq n) (filter (is_other conn) numbers) ≡ (not (nat_eq conn n) && list_any (nat_eq n) numbers)
left conn n numbers = any-filter_same (nat_eq n) (is_other conn) (not (nat_eq conn n)) (λ k h. ap (λ m. not (nat_eq m conn)) (sym (true_eq n k h)) ∙ ap not (nat_eq_equiv.symm n conn)) numbers

pub noted_left : (conn n : ℕ) (p : Peer) (numbers : List ℕ) (there : Option (List Peer)) → (list_any (nat_eq n) numbers ≡ true → is_among (items_of there) p ≡ true)
    → list_any (nat_eq n) (filter (is_other conn) numbers) ≡ true → is_among (items_of (cond (nat_eq conn n) None there)) p ≡ true
noted_left conn n p numbers there noted h = by_test (nat_eq conn n) (sym (left conn n numbers) ∙ h)
  where
    by_test : (w : Bool) → (not w && list_any (nat_eq n) numbers) ≡ true → is_among (items_of (cond w None there)) p ≡ true
    by_test true h = h
    by_test false h = noted h

none_there : (conn : ℕ) (numbers : List ℕ) → list_any (nat_eq conn) numbers ≡ false → filter (is_other conn) numbers ≡ numbers
none_there conn [] h = refl
none_there conn (n ∷ ns) h =
    let other : not (nat_eq n conn) ≡ true = ap not (nat_eq_equiv.symm n conn ∙ first_of_neither (nat_eq conn n) (list_any (nat_eq conn) ns) h) in
    rw other (ap (λ xs. n ∷ xs) (none_there conn ns (second_of_neither (nat_eq conn n) (list_any (nat_eq conn) ns) h)))

all_dropped : (conn : ℕ) (p : Peer) (numbers : List ℕ) (peers : List Peer) → (list_any (nat_eq conn) numbers ≡ true → is_among peers p ≡ true)
    → cond (is_among peers p) (filter (is_other conn) numbers) numbers ≡ filter (is_other conn) numbers
all_dropped conn p numbers peers noted = by_tests (is_among peers p) (list_any (nat_eq conn) numbers) refl refl
  where
    by_tests : (w a : Bool) → is_among peers p ≡ w → list_any (nat_eq conn) numbers ≡ a → cond w (filter (is_other conn) numbers) numbers ≡ filter (is_other conn) numbers
    by_tests true a there has = refl
    by_tests false true there has = contradicts (is_among peers p) (noted has) there
    by_tests false false there has = sym (none_there conn numbers has)

-- what is dropped at the peers with which a number was noted is dropped everywhere
pub dropped : (conn : ℕ) (p : Peer) (numbers new : List ℕ) (peers : List Peer) (there : Option (List Peer)) → new ≡ cond (is_among peers p) (filter (is_other conn) numbers) numbers → Some peers ≡ there
    → (list_any (nat_eq conn) numbers ≡ true → is_among (items_of there) p ≡ true) → new ≡ filter (is_other conn) numbers
dropped conn p numbers new peers there is found noted =
    is ∙ all_dropped conn p numbers peers (λ has. ap (λ (o : Option (List Peer)). is_among (items_of o) p) found ∙ noted has)

-- one that was noted with none stands nowhere
pub none_dropped : (conn : ℕ) (p : Peer) (numbers : List ℕ) (there : Option (List Peer)) → None ≡ there → (list_any (nat_eq conn) numbers ≡ true → is_among (items_of there) p ≡ true) → numbers ≡ filter (is_other conn) numbers
none_dropped conn p numbers there none noted = all_dropped conn p numbers [] (λ has. ap (λ (o : Option (List Peer)). is_among (items_of o) p) none ∙ noted has)
