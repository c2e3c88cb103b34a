-- The octets of an open connection have no head whose length is too large.
use Rattle.std.proofs.Common.{◌≡◌, ℕ, Bool, true, false, cond, nat_eq, List, [], ◌∷◌, ◌++◌, None, All, refl, ap, sym, ◌∙◌, subst, true≢false}
use Rattle.std.specs.List.{list_any}
use Rattle.std.proofs.lemmas.Bool.{not-true, or_right}
use Rattle.alt_base.proofs.Numbers.{true_eq}
use Rattle.h2_framing.specs.Streams.{split_of, too_large_of}
use Rattle.route_events.specs.declared.fact.Fact.{Fact}
use Rattle.route_events.specs.declared.fact.Fact.TheVariants.{Input}
use Rattle.route_events.specs.declared.connection.Connection.{Connection}
use Rattle.route_events.specs.Journal.{Entry, Journal}
use Rattle.route_events.specs.Requests.{waiting}
use Rattle.route_events.specs.Connections.{connections, closes, is_open, open_connections}
use Rattle.route_events.specs.Frames.{octets_on}
use Rattle.route_events.specs.Step.{IsRun, Begun, Stepped, part_effects, with_part, with_fact, settled, parts_of, follow, answer_to, step}
use Rattle.route_events.proofs.Lists.{in_filter, all_from_in}
use Rattle.route_events.proofs.PartsKeep.{octets_step, closed_with, closed_settle, never_cut}

-- of each number that nothing closed
abbrev GoesOn : Journal → Type 0
GoesOn j = (n : ℕ) → list_any (closes n) j ≡ false → too_large_of (octets_on j n) ≡ None

nothing_came : too_large_of [] ≡ None
unfolding split_of
nothing_came = refl

-- what is open was open
closed_part : (j : Journal) (now : ℕ) (part : Entry) (n : ℕ) → list_any (closes n) j ≡ true → list_any (closes n) (settled (with_part j now part) now) ≡ true
closed_part j now part n h =
    closed_settle (with_part j now part) now (waiting (with_part j now part)) n
    (closed_with (part ∷ j) (part_effects j now part) n (or_right (closes n part) (list_any (closes n) j) h))

closed_follow : (j : Journal) (now : ℕ) (parts : List Entry) (n : ℕ) → list_any (closes n) j ≡ true → list_any (closes n) (follow j now parts) ≡ true
closed_follow j now [] n h = h
closed_follow j now (part ∷ parts) n h = closed_follow (settled (with_part j now part) now) now parts n (closed_part j now part n h)

closed_step : (j : Journal) (now : ℕ) (fact : Fact) (n : ℕ) → list_any (closes n) j ≡ true → list_any (closes n) (step j now fact) ≡ true
closed_step j now fact n h =
    closed_with (follow j now (parts_of j now fact)) (answer_to (follow j now (parts_of j now fact)) now fact) n (closed_follow j now (parts_of j now fact) n h)

pub earlier : (b c : Bool) → (b ≡ true → c ≡ true) → c ≡ false → b ≡ false
earlier true c h e = absurd (true≢false (sym (h refl) ∙ e))
earlier false c h e = refl

-- octets that are taken go on where their connection isn't closed behind them
goes_input : (j : Journal) (now c : ℕ) (bytes : List ℕ) → GoesOn j → GoesOn (step j now (Input c bytes))
goes_input j now c bytes was n open_now =
    ap too_large_of octets ∙ by_number (nat_eq c n) refl
  where
    begun : Journal
    begun = settled (with_fact j now (Input c bytes)) now

    octets : octets_on (step j now (Input c bytes)) n ≡ cond (nat_eq c n) (octets_on j n ++ bytes) (octets_on j n)
    octets = octets_step j now (Input c bytes) n

    by_number : (b : Bool) → nat_eq c n ≡ b → too_large_of (cond b (octets_on j n ++ bytes) (octets_on j n)) ≡ None
    by_number true e =
        let same : c ≡ n = true_eq c n e in
        subst (λ m. too_large_of (octets_on j m ++ bytes) ≡ None) same
        (never_cut begun now c (octets_on j c) bytes (subst (λ m. list_any (closes m) (step j now (Input c bytes)) ≡ false) (sym same) open_now))
    by_number false e = was n (earlier _ _ (closed_step j now (Input c bytes) n) open_now)

goes_step : (j : Journal) (now : ℕ) (fact : Fact) → GoesOn j → GoesOn (step j now fact)
goes_step j now (Input c bytes) was = goes_input j now c bytes was
goes_step j now fact was = λ n open_now.
    ap too_large_of (octets_step j now fact n) ∙ was n (earlier _ _ (closed_step j now fact n) open_now)

goes_on : {j : Journal} → IsRun j → GoesOn j
goes_on Begun = λ n open_now. nothing_came
goes_on (Stepped j now fact was free) = goes_step j now fact (goes_on was)

pub open_goes_on : (j : Journal) → IsRun j → All (λ (c : Connection). too_large_of (octets_on j c.number) ≡ None) (open_connections j)
open_goes_on j is = all_from_in (λ (c : Connection). too_large_of (octets_on j c.number) ≡ None) (open_connections j)
    (λ c found. goes_on is c.number (not-true (list_any (closes c.number) j) (in_filter (is_open j) c (connections j) found).1))
