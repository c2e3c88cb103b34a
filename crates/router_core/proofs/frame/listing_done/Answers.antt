use Rattle.std.proofs.Common.{◌≤◌, inl, inr, ℕ, List, [], ◌∷◌, length, ap, arith, length-append}
use Rattle.origin_values.specs.declared.origin.Origin.{Origin}
use Rattle.origin_frame.specs.PayloadGrammar.{AreEntries, AreListed}
use Rattle.router_core.proofs.frame.listing_done.Goals as goal

-- a payload has at least as many octets as it lists origins
few_listed : (payload : List ℕ) (entries : List (List ℕ)) (origins : List Origin) (skipped : ℕ) → AreEntries payload entries → AreListed entries origins skipped → length origins ≤ length payload
few_listed payload [] origins skipped are listed = omega (arith, ap length listed.0)
few_listed payload (entry ∷ entries) origins skipped are (inl read) =
    let begins = are.1 in
    let rest = few_listed are.0 entries read.1 skipped are.2 read.4 in
    omega (arith, ap length read.2, ap length begins.spelled, length-append entry are.0, rest)
few_listed payload (entry ∷ entries) origins skipped are (inr other) =
    let begins = are.1 in
    let rest = few_listed are.0 entries origins other.0 are.2 other.3 in
    omega (arith, ap length begins.spelled, length-append entry are.0, rest)

pub overflow_cast-result : goal.overflow_cast-result
overflow_cast-result c =
    let spelled = c.in-Ok.ensures.ok in
    omega (arith, few_listed c.args.payload.now spelled.entries _ _ spelled.spelled spelled.listing, c.requires, c.len.ensures)
