-- What loops over lists make, one more item at a time.
use Rattle.std.proofs.Common.{◌≡◌, ℕ, ◌+◌, ◌<◌, ◌≤◌, zero, suc, Bool, true, false, cond, List, [], ◌∷◌, ◌++◌, map, take, get_or, length, Option, Some, None, is_some, find, nat_eq, refl, ap, sym, arith, add-one, true≢false, subst}
use Rattle.std.specs.Prelude.{max}
use Rattle.std.specs.Option.{option_and_then}
use Rattle.origin_values.specs.declared.address.Addr.{Addr}
use Rattle.origin_values.specs.declared.origin.Origin.{Origin}
use Rattle.route_choice.specs.Candidates.{best_of, number_of}
use Rattle.conn_states.specs.Record.{Record}
use Rattle.request_dispatch.specs.ConnectionTable.{connection_among, most_sends}
use Rattle.request_dispatch.specs.Carriers.{candidates, best_connection}

-- one more item is appended as another
pub map_more : {X Y : Type 0} (f : X → Y) (xs : List X) (i : ℕ) (d : X) → i < length xs → map f (take (i + 1) xs) ≡ map f (take i xs) ++ f (get_or xs i d) ∷ []
map_more f xs i d within = rw add-one (map_suc f xs i d within)
  where
    map_suc : {X Y : Type 0} (f : X → Y) (xs : List X) (i : ℕ) (d : X) → i < length xs → map f (take (suc i) xs) ≡ map f (take i xs) ++ f (get_or xs i d) ∷ []
    map_suc f [] i d within = absurd (omega arith)
    map_suc f (x ∷ xs) zero d within = refl
    map_suc f (x ∷ xs) (suc i) d within = ap (λ zs. f x ∷ zs) (map_suc f xs i d (omega arith))

left_most : (a b : ℕ) → a ≤ max a b
left_most a b = grind arith

right_most : (a b c : ℕ) → a ≤ c → a ≤ max b c
right_most a b c h = grind arith

-- no connection has more sends than the most
pub sends_at : (cs : List Record) (i : ℕ) (d : Record) → i < length cs → (get_or cs i d).sends ≤ most_sends cs
sends_at [] i d within = absurd (omega arith)
sends_at (c ∷ cs) zero d within = left_most c.sends (most_sends cs)
sends_at (c ∷ cs) (suc i) d within = right_most (get_or cs i d).sends c.sends (most_sends cs) (sends_at cs i d (omega arith))

pub sends_found : (p : Record → Bool) (cs : List Record) (c : Record) → find p cs ≡ Some c → c.sends ≤ most_sends cs
sends_found p [] c e = absurd (true≢false (sym (ap is_some e)))
sends_found p (b ∷ cs) c e = by_test (p b) (sends_found p cs c) e
  where
    by_test : (w : Bool) → (find p cs ≡ Some c → c.sends ≤ most_sends cs) → cond w (Some b) (find p cs) ≡ Some c → c.sends ≤ max b.sends (most_sends cs)
    by_test true rest e = let same : b ≡ c = cc in subst (λ (x : Record). x.sends ≤ max b.sends (most_sends cs)) same (left_most b.sends (most_sends cs))
    by_test false rest e = right_most c.sends b.sends (most_sends cs) (rest e)

-- nor has the best
pub sends_best : (at : Origin → Addr → Bool) (o : Origin) (cs : List Record) (c : Record) → best_connection at o cs ≡ Some c → c.sends ≤ most_sends cs
sends_best at o cs c e = by_number (number_of (best_of (candidates at o cs))) e
  where
    by_number : (v : Option ℕ) → option_and_then (connection_among cs) v ≡ Some c → c.sends ≤ most_sends cs
    by_number None e = absurd (true≢false (sym (ap is_some e)))
    by_number (Some n) e = sends_found (λ (x : Record). nat_eq x.number n) cs c e
