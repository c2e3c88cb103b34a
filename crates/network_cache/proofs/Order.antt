-- The order of origins and of places, and what a change of the queue makes of it.
use Rattle.std.proofs.Common.{◌≡◌, ℕ, ◌≤◌, Bool, true, false, cond, not, ◌&&◌, ◌||◌, nat_eq, Option, None, Some, refl, sym, ap, ◌∙◌, arith}
use Rattle.std.specs.Prelude.{◌==◌}
use Rattle.std.specs.Option.{IfSome}
use Rattle.std.specs.BTreeSet.{BTreeSet, Updates}
use Rattle.std.specs.Cmp.Lexicographic.{pointwise, texts_ties}
use Rattle.std.specs.declared.cmp.Ordering.{Ordering}
use Rattle.std.specs.Ordering.{nat_cmp, ordering_then, is_eq, is_gt}
use Rattle.std.proofs.lemmas.Bool.Decides.{nat_tests}
use Rattle.std.proofs.lemmas.Grind.{common_steps}
use Rattle.origin_values.specs.declared.scheme.Scheme.{Scheme}
use Rattle.origin_values.specs.declared.scheme.Scheme.TheVariants.{Http, Https}
use Rattle.origin_values.specs.declared.host.Host.{Host}
use Rattle.origin_values.specs.declared.host.Host.TheVariants.{Name, V4, V6}
use Rattle.origin_values.specs.declared.origin.Origin.{Origin}
use Rattle.origin_values.specs.Equality.{scheme_eq, host_eq, origin_eq}
use Rattle.network_cache.specs.OriginOrder.{scheme_rank, host_rank, host_bytes, order_key, origin_cmp}
use Rattle.network_cache.specs.Queue.{place_cmp, is_place, is_queued}

-- origins are one where what orders them is

one_scheme : (s t : Scheme) → scheme_eq s t ≡ nat_eq (scheme_rank s) (scheme_rank t)
one_scheme Http Http = refl
one_scheme Http Https = refl
one_scheme Https Http = refl
one_scheme Https Https = refl

one_host : (h k : Host) → host_eq h k ≡ (nat_eq (host_rank h) (host_rank k) && pointwise nat_eq (host_bytes h) (host_bytes k))
one_host (Name a) (Name b) = refl
one_host (Name a) (V4 b) = refl
one_host (Name a) (V6 b) = refl
one_host (V4 a) (Name b) = refl
one_host (V4 a) (V4 b) = refl
one_host (V4 a) (V6 b) = refl
one_host (V6 a) (Name b) = refl
one_host (V6 a) (V4 b) = refl
one_host (V6 a) (V6 b) = refl

last_first : (a b c : Bool) → (a && (b && c)) ≡ (c && (a && b))
last_first true true true = refl
last_first true true false = refl
last_first true false true = refl
last_first true false false = refl
last_first false b true = refl
last_first false b false = refl

pub same_keys : (a b : Origin) → origin_eq a b ≡ pointwise nat_eq (order_key a) (order_key b)
same_keys a b =
    (λ i. one_scheme a.scheme b.scheme i && (one_host a.host b.host i && nat_eq a.port b.port))
    ∙ last_first (nat_eq (scheme_rank a.scheme) (scheme_rank b.scheme)) (nat_eq (host_rank a.host) (host_rank b.host) && pointwise nat_eq (host_bytes a.host) (host_bytes b.host)) (nat_eq a.port b.port)

matches : (a b : Origin) → origin_eq a b ≡ is_eq (origin_cmp a b)
matches a b = same_keys a b ∙ texts_ties (order_key a) (order_key b)

-- places

then_eq : (a c : ℕ) (r : Ordering) → is_eq (ordering_then (nat_cmp a c) r) ≡ ((a == c) && is_eq r)
then_eq a c r = grind (arith, nat_tests, common_steps)

then_gt : (a c : ℕ) (r : Ordering) → is_gt (ordering_then (nat_cmp a c) r) ≡ false → a ≤ c
then_gt a c r h = grind (arith, nat_tests, common_steps)

pub not_after : (p q : ℕ × Origin) → is_gt (place_cmp p q) ≡ false → p.0 ≤ q.0
not_after p q = then_gt p.0 q.0 (origin_cmp p.1 q.1)

pub place_at : (p q : ℕ × Origin) → is_eq (place_cmp p q) ≡ is_place p q
place_at p q = then_eq p.0 q.0 (origin_cmp p.1 q.1) ∙ ap (λ w. (p.0 == q.0) && w) (sym (matches p.1 q.1))

-- the queue with a place, or without one
pub updated : (old new : BTreeSet (ℕ × Origin)) (p : ℕ × Origin) (there : Bool) → Updates place_cmp old new p there
    → (e : ℕ) (o : Origin) → is_queued new e o ≡ cond (is_place p (e, o)) there (is_queued old e o)
updated old new p there h e o = h.0 (e, o) ∙ ap (λ w. cond w there (is_queued old e o)) (place_at p (e, o))

pub popped : (old new : BTreeSet (ℕ × Origin)) (r : Option (ℕ × Origin)) → IfSome r (λ p. Updates place_cmp old new p false)
    → IfSome r (λ p. (e : ℕ) (o : Origin) → is_queued new e o ≡ cond (is_place p (e, o)) false (is_queued old e o))
popped old new None h = tt
popped old new (Some p) h = updated old new p false h

-- tests of places

-- one more alternative was entered
pub entered_more : (here same so_far old : Bool) → cond (here && same) true ((same && so_far) || old) ≡ ((same && (so_far || here)) || old)
entered_more true true true old = refl
entered_more true true false old = refl
entered_more true false so_far old = refl
entered_more false true true old = refl
entered_more false true false old = refl
entered_more false false so_far old = refl

pub added : (w old : Bool) → old ≡ true → cond w true old ≡ true
added true old h = refl
added false old h = h

-- one more place was left
pub taken_out : (here same left old : Bool) → left ≡ false → cond (here && same) false old ≡ (not ((here && same) && not left) && old)
taken_out true true false old none = refl
taken_out true false false old none = refl
taken_out false same false old none = refl
taken_out here same true old none = cc

pub kept_there : (w left old : Bool) → left ≡ true → old ≡ (not (w && not left) && old)
kept_there true true old there = refl
kept_there false true old there = refl
kept_there w false old there = cc

pub left_more : (here same so_far left now old : Bool) → (here ≡ true → left ≡ now)
    → (not ((here && same) && not left) && (not (same && (so_far && not now)) && old)) ≡ (not (same && ((so_far || here) && not now)) && old)
left_more true true true true true old at = refl
left_more true true true false false old at = refl
left_more true true false true true old at = refl
left_more true true false false false old at = refl
left_more true same so_far true false old at = let e : true ≡ false = at refl in cc
left_more true same so_far false true old at = let e : false ≡ true = at refl in cc
left_more true false so_far left now old at = refl
left_more false same true left now old at = refl
left_more false same false left now old at = refl

-- an origin's places, once other alternatives are in the place of those before
pub replaced : (same now before old : Bool) → (same ≡ true → old ≡ before) → (not (same && (before && not now)) && ((same && now) || old)) ≡ cond same now old
replaced true true true old at = refl
replaced true true false old at = refl
replaced true false true old at = refl
replaced true false false old at = at refl
replaced false now before old at = refl

pub cleared : (same before old : Bool) → (same ≡ true → old ≡ before) → (not (same && (before && not false)) && old) ≡ cond same false old
cleared true true old at = refl
cleared true false old at = at refl
cleared false before old at = refl

-- what was entered in vain is swept away
pub swept : (stands queued : Bool) → (stands ≡ true → queued ≡ true) → (stands && queued) ≡ stands
swept true queued h = h refl
swept false queued h = refl
