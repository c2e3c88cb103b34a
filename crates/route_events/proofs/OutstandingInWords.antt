-- What is outstanding on a connection is what stands there.
use Rattle.std.proofs.Common.{◌≡◌, ◌↔◌, ◌⊎◌, inl, inr, ℕ, Bool, true, false, cond, not, nat_eq, List, [], ◌∷◌, ◌++◌, Option, Some, None, is_some, refl, ap, sym, ◌∙◌, subst, true≢false}
use Rattle.std.specs.Option.{option_map_or}
use Rattle.route_events.specs.declared.fact.Fact.TheVariants.{Request, Response}
use Rattle.route_events.specs.declared.action.Action.TheVariants.{SendOn, Refuse, Lost}
use Rattle.route_events.specs.Journal.{Happened, Cut, Taken, Journal}
use Rattle.route_events.specs.Requests.{Standing, Waits, OutOn, Over, after_status, standing}
use Rattle.route_events.specs.Connections.{is_one_of, outstanding, without}
use Rattle.route_events.proofs.Lists.{IsIn, nat_eq-flip, filter_in, in_append, in_end, some_in}
use Rattle.route_events.proofs.Sound.{Sound}
use Rattle.alt_base.proofs.Numbers.{true_eq, eq_self}
use Rattle.std.proofs.lemmas.Bool.{or_left, or_right}

one_of_in : (n : ℕ) (ns : List ℕ) → IsIn n ns → is_one_of n ns ≡ true
one_of_in n [] none = absurd none
one_of_in n (m ∷ ms) (inl same) = or_left (nat_eq n m) (is_one_of n ms) (subst (λ k. nat_eq n k ≡ true) same (eq_self n))
one_of_in n (m ∷ ms) (inr later) = or_right (nat_eq n m) (is_one_of n ms) (one_of_in n ms later)

pub in_one_of : (n : ℕ) (ns : List ℕ) → is_one_of n ns ≡ true → IsIn n ns
in_one_of n ns e = let found = some_in (nat_eq n) ns e in subst (λ k. IsIn k ns) (sym (true_eq n found.0 found.2)) found.1

-- where a request stands by an entry that moves one: by it, where that one is the request, else as before
by_entry : (b : Bool) (to s : Standing) (w : Option Standing) → option_map_or Some (cond b (Some to) None) w ≡ Some s → ((b ≡ true) × (to ≡ s)) ⊎ ((b ≡ false) × (w ≡ Some s))
by_entry true to s w e = inl (refl, cc)
by_entry false to s w e = inr (refl, e)

-- one that isn't outstanding any more is another one
still_in : (n q : ℕ) (ns : List ℕ) → nat_eq q n ≡ false → IsIn n ns → IsIn n (without q ns)
still_in n q ns other found = filter_in (λ m. not (nat_eq m q)) n ns found (ap not (nat_eq-flip n q ∙ other))

-- a request that is out on a connection is outstanding there
pub stands_out : (j : Journal) (n conn : ℕ) → standing j n ≡ Some (OutOn conn) → IsIn n (outstanding j conn)
stands_out [] n conn e = absurd (true≢false (sym (ap is_some e)))
stands_out (Happened moment (Request m o) handed_in ∷ older) n conn e = moved (by_entry (nat_eq m n) Waits (OutOn conn) (standing older n) e) (stands_out older n conn)
  where
    moved : ((nat_eq m n ≡ true) × (Waits ≡ OutOn conn)) ⊎ ((nat_eq m n ≡ false) × (standing older n ≡ Some (OutOn conn))) → (standing older n ≡ Some (OutOn conn) → IsIn n (outstanding older conn)) → IsIn n (outstanding older conn)
    moved (inl here) rest = let is : Waits ≡ OutOn conn = here.1 in cc
    moved (inr before) rest = rest before.1
stands_out (Happened moment (Response q status age altsvc) handed_in ∷ older) n conn e = moved (by_entry (nat_eq q n) (after_status status) (OutOn conn) (standing older n) e) (stands_out older n conn)
  where
    never : (b : Bool) → cond b Waits Over ≡ OutOn conn → IsIn n (without q (outstanding older conn))
    never true is = cc
    never false is = cc

    moved : ((nat_eq q n ≡ true) × (after_status status ≡ OutOn conn)) ⊎ ((nat_eq q n ≡ false) × (standing older n ≡ Some (OutOn conn))) → (standing older n ≡ Some (OutOn conn) → IsIn n (outstanding older conn)) → IsIn n (without q (outstanding older conn))
    moved (inl here) rest = never (nat_eq status 421) here.1
    moved (inr before) rest = still_in n q (outstanding older conn) before.0 (rest before.1)
stands_out (Happened moment _ handed_in ∷ older) n conn e = stands_out older n conn e
stands_out (Cut moment cut length ∷ older) n conn e = stands_out older n conn e
stands_out (Taken (SendOn q to stream used) ∷ older) n conn e = moved (by_entry (nat_eq q n) (OutOn to) (OutOn conn) (standing older n) e) (stands_out older n conn)
  where
    at_end : (b : Bool) → b ≡ true → q ≡ n → IsIn n (cond b (outstanding older conn ++ q ∷ []) (outstanding older conn))
    at_end true e same = subst (λ k. IsIn n (outstanding older conn ++ k ∷ [])) (sym same) (in_end n (outstanding older conn))
    at_end false e same = absurd (true≢false (sym e))

    further : (b : Bool) → IsIn n (outstanding older conn) → IsIn n (cond b (outstanding older conn ++ q ∷ []) (outstanding older conn))
    further true found = in_append n q (outstanding older conn) found
    further false found = found

    one_conn : OutOn to ≡ OutOn conn → to ≡ conn
    one_conn is = cc

    moved : ((nat_eq q n ≡ true) × (OutOn to ≡ OutOn conn)) ⊎ ((nat_eq q n ≡ false) × (standing older n ≡ Some (OutOn conn))) → (standing older n ≡ Some (OutOn conn) → IsIn n (outstanding older conn)) → IsIn n (cond (nat_eq to conn) (outstanding older conn ++ q ∷ []) (outstanding older conn))
    moved (inl here) rest = at_end (nat_eq to conn) (subst (λ k. nat_eq to k ≡ true) (one_conn here.1) (eq_self to)) (true_eq q n here.0)
    moved (inr before) rest = further (nat_eq to conn) (rest before.1)
stands_out (Taken (Refuse q) ∷ older) n conn e = moved (by_entry (nat_eq q n) Over (OutOn conn) (standing older n) e) (stands_out older n conn)
  where
    moved : ((nat_eq q n ≡ true) × (Over ≡ OutOn conn)) ⊎ ((nat_eq q n ≡ false) × (standing older n ≡ Some (OutOn conn))) → (standing older n ≡ Some (OutOn conn) → IsIn n (outstanding older conn)) → IsIn n (outstanding older conn)
    moved (inl here) rest = let is : Over ≡ OutOn conn = here.1 in cc
    moved (inr before) rest = rest before.1
stands_out (Taken (Lost q) ∷ older) n conn e = moved (by_entry (nat_eq q n) Over (OutOn conn) (standing older n) e) (stands_out older n conn)
  where
    moved : ((nat_eq q n ≡ true) × (Over ≡ OutOn conn)) ⊎ ((nat_eq q n ≡ false) × (standing older n ≡ Some (OutOn conn))) → (standing older n ≡ Some (OutOn conn) → IsIn n (outstanding older conn)) → IsIn n (without q (outstanding older conn))
    moved (inl here) rest = let is : Over ≡ OutOn conn = here.1 in cc
    moved (inr before) rest = still_in n q (outstanding older conn) before.0 (rest before.1)
stands_out (Taken _ ∷ older) n conn e = stands_out older n conn e

-- in a sound journal both say the same
pub outstanding_stands : (j : Journal) (n conn : ℕ) → Sound j → (is_one_of n (outstanding j conn) ≡ true) ↔ (standing j n ≡ Some (OutOn conn))
outstanding_stands j n conn sound = (λ e. sound.out_stands conn n (in_one_of n (outstanding j conn) e), λ e. one_of_in n (outstanding j conn) (stands_out j n conn e))
