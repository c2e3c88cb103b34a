-- The outstanding requests of a table, where one of them isn't outstanding any more.
use Rattle.std.proofs.Common.{◌≡◌, ℕ, ◌≤◌, Bool, true, false, cond, not, ◌&&◌, ◌||◌, nat_eq, List, [], ◌∷◌, Option, Some, None, is_some, refl, ap, sym, ◌∙◌, true≢false}
use Rattle.alt_base.proofs.Numbers.{eq_self, true_eq}
use Rattle.std.specs.Option.{option_map_or}
use Rattle.route_events.specs.declared.request.Request.{Request}
use Rattle.route_events.specs.Journal.{Journal}
use Rattle.route_events.specs.Requests.{Standing, requests, newest_number, standing, is_out}
use Rattle.route_events.specs.Connections.{is_one_of}
use Rattle.route_events.proofs.Lists.{filter_same, filter_twice, find_in}
use Rattle.route_events.proofs.Sound.{Sound}
use Rattle.request_dispatch.specs.declared.outstanding.Outstanding.{Outstanding}
use Rattle.request_dispatch.specs.RequestTable.{request_among, without_all}
use Rattle.router_core.specs.Holds.{IsOut, AreOut}

found_left : (q n : ℕ) (outs : List Outstanding) → request_among (without_all (q ∷ []) outs) n ≡ cond (nat_eq q n) None (request_among outs n)
found_left q n [] = by_test (nat_eq q n)
  where
    by_test : (b : Bool) → None ≡ cond {A = Option Outstanding} b None None
    by_test true = refl
    by_test false = refl
found_left q n (x ∷ xs) = by_tests (nat_eq x.request.number q) (nat_eq x.request.number n) (nat_eq q n) refl refl refl (found_left q n xs)
  where
    by_tests : (a b c : Bool) → nat_eq x.request.number q ≡ a → nat_eq x.request.number n ≡ b → nat_eq q n ≡ c → request_among (without_all (q ∷ []) xs) n ≡ cond c None (request_among xs n) →
        request_among (cond (not (a || false)) (x ∷ without_all (q ∷ []) xs) (without_all (q ∷ []) xs)) n ≡ cond c None (cond b (Some x) (request_among xs n))
    by_tests true b true is_q is_n same rest = rest
    by_tests true true false is_q is_n same rest = absurd (true≢false (sym is_n ∙ ap (λ m. nat_eq m n) (true_eq x.request.number q is_q) ∙ same))
    by_tests true false false is_q is_n same rest = rest
    by_tests false true true is_q is_n same rest = absurd (true≢false (sym (eq_self q) ∙ ap (λ m. nat_eq m q) (true_eq q n same ∙ sym (true_eq x.request.number n is_n)) ∙ is_q))
    by_tests false true false is_q is_n same rest = rw is_n refl
    by_tests false false c is_q is_n same rest = rw is_n rest

-- where one request moves to another standing, and nothing else of the outstanding ones changes
pub out_moved : (j k : Journal) (q : ℕ) (to : Standing) (outs : List Outstanding) → is_out (Some to) ≡ false → ((n : ℕ) (x : Outstanding) → IsOut j n x → IsOut k n x) →
    ((n : ℕ) → standing k n ≡ option_map_or Some (cond (nat_eq q n) (Some to) None) (standing j n)) → AreOut j outs → AreOut k (without_all (q ∷ []) outs)
out_moved j k q to outs gone same moved are = record {
  out = λ n. ap is_some (found_left q n outs) ∙ out_by n (nat_eq q n) ∙ ap is_out (sym (moved n));
  known = λ n x found. same n x (known_by n x (nat_eq q n) (sym (found_left q n outs) ∙ found));
}
  where
    out_by : (n : ℕ) (b : Bool) → is_some (cond b None (request_among outs n)) ≡ is_out (option_map_or Some (cond b (Some to) None) (standing j n))
    out_by n true = sym gone
    out_by n false = are.out n

    known_by : (n : ℕ) (x : Outstanding) (b : Bool) → cond b None (request_among outs n) ≡ Some x → IsOut j n x
    known_by n x true e = absurd (true≢false (sym (ap is_some e)))
    known_by n x false e = are.known n x e

pub without_more : (q : ℕ) (qs : List ℕ) (outs : List Outstanding) → without_all qs (without_all (q ∷ []) outs) ≡ without_all (q ∷ qs) outs
without_more q qs outs =
    filter_twice (λ (x : Outstanding). not (is_one_of x.request.number qs)) (λ (x : Outstanding). not (is_one_of x.request.number (q ∷ []))) outs
    ∙ filter_same (λ (x : Outstanding). not (is_one_of x.request.number (q ∷ [])) && not (is_one_of x.request.number qs)) (λ (x : Outstanding). not (is_one_of x.request.number (q ∷ qs))) outs (λ x. by_test (nat_eq x.request.number q) (is_one_of x.request.number qs))
  where
    by_test : (a b : Bool) → (not (a || false) && not b) ≡ not (a || b)
    by_test true b = refl
    by_test false b = refl

-- the request of a number has it, and isn't above the newest one
pub known_number : (j : Journal) (n : ℕ) (x : Outstanding) → Sound j → IsOut j n x → (x.request.number ≡ n) × (x.request.number ≤ newest_number j)
known_number j n x sound is =
    let found = find_in (λ (r : Request). nat_eq r.number n) (requests j) x.request is.request in
    (true_eq x.request.number n found.1, sound.newest x.request found.0)

pub none_left_out : (outs : List Outstanding) → without_all [] outs ≡ outs
none_left_out [] = refl
none_left_out (x ∷ xs) = ap (λ ys. x ∷ ys) (none_left_out xs)
