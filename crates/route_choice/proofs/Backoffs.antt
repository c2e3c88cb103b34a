-- What doubling and capping make of a backoff.
use Rattle.std.proofs.Common.{◌≡◌, ℕ, ◌-◌, ◌*◌, ◌^◌, ◌%◌, ◌<◌, ◌≤◌, Bool, true, false, ◌&&◌, nat_lt, refl, ap, ◌∙◌, arith}
use Rattle.std.specs.Prelude.{min}
use Rattle.std.proofs.Math.Pow.{pow_mono}
use Rattle.alt_base.proofs.Numbers.{true_lt, false_lt}
use Rattle.route_events.specs.declared.route.Route.{Route}
use Rattle.route_events.specs.declared.route.Route.TheVariants.{Direct, Alt, Rec}
use Rattle.route_events.specs.Backoff.{Failures, backoff, is_backing_off, is_barred_by}
use Rattle.route_choice.specs.Capped.{capped}

fits : (x : ℕ) → x ≤ 512 → 300 * x % 4294967296 ≡ min 172800 (300 * x)
fits x h = grind arith

longest : (x : ℕ) → 1024 ≤ x → 172800 ≡ min 172800 (300 * x)
longest x h = grind arith

pub doubled : (count places : ℕ) → count < 11 → places ≡ count - 1 → 300 * 2 ^ places % 4294967296 ≡ backoff count
doubled count places h e = rw e (fits (2 ^ (count - 1)) (pow_mono {i = count - 1} {j = 9} (omega arith)))

pub at_most : (count : ℕ) → 11 ≤ count → 172800 ≡ backoff count
at_most count h = longest (2 ^ (count - 1)) (pow_mono {i = 10} {j = count - 1} (omega arith))

capped_backoff : (count : ℕ) → backoff (min 11 count) ≡ backoff count
capped_backoff count = by_test (nat_lt count 11) refl
  where
    by_test : (b : Bool) → nat_lt count 11 ≡ b → backoff (min 11 count) ≡ backoff count
    by_test true e =
        let below : count < 11 = true_lt count 11 e in
        let same : min 11 count ≡ count = omega arith in
        ap backoff same
    by_test false e =
        let above : 11 ≤ count = false_lt count 11 e in
        let most : min 11 count ≡ 11 = omega arith in
        ap backoff most ∙ at_most count above

capped_some : (count : ℕ) → nat_lt 0 (min 11 count) ≡ nat_lt 0 count
capped_some count = grind arith

pub capped_backing_off : (f : Failures) (now : ℕ) → is_backing_off (capped f) now ≡ is_backing_off f now
capped_backing_off f now = joined (nat_lt 0 (min 11 f.count)) (nat_lt 0 f.count) (backoff (min 11 f.count)) (backoff f.count) (capped_some f.count) (capped_backoff f.count)
  where
    joined : (a b : Bool) (m n : ℕ) → a ≡ b → m ≡ n → (a && nat_lt (now - f.last) m) ≡ (b && nat_lt (now - f.last) n)
    joined a b m n e h = rw (e, h) refl

pub capped_barred : (f : Failures) (r : Route) (now : ℕ) → is_barred_by (capped f) r now ≡ is_barred_by f r now
capped_barred f Direct now = refl
capped_barred f (Alt key) now = capped_backing_off f now
capped_barred f (Rec endpoint) now = capped_backing_off f now
