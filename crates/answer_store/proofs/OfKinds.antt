-- What a change of one kind's table is to the store, and what is in force of any kind.
use Rattle.std.proofs.Common.{◌↔◌, ◌≡◌, ℕ, ◌-◌, ◌≤◌, ◌+◌, Bool, true, false, ◌&&◌, cond, nat_lt, List, length, Option, None, Some, refl, sym, ◌∙◌, ap, arith}
use Rattle.std.specs.Prelude.{is_some}
use Rattle.std.proofs.lemmas.Bool.Decides.{nat_tests}
use Rattle.std.proofs.lemmas.Map.Made.{length-from_same_keys}
use Rattle.svcb_wire.specs.declared.svcb.Svcb.{Svcb}
use Rattle.alias_chain.specs.declared.held.Held.{Held}
use Rattle.alias_chain.specs.Held.{held_at, is_in_force, in_force, body_at}
use Rattle.answer_store.specs.declared.store.AnswerStore.{AnswerStore}
use Rattle.answer_store.specs.declared.table.Table.{Table}
use Rattle.dns_names.specs.Names.{name_eq}
use Rattle.answer_store.specs.Tables.{at}
use Rattle.answer_store.specs.Bodies.{Kind, A, Aaaa, Https, Body, Addresses4, Addresses6, Records, kind_eq, of_kind}
use Rattle.answer_store.specs.Contents.{kept, kept_in, https_held, IsCount, HoldsInForce}
use Rattle.answer_store.proofs.Names.{same_names}

module _ {B : Type 0} (body : B → Body) where
  pub put_of : (same : Bool) (h : Held B) (o : Option (Held B)) → of_kind body (cond same (Some h) o) ≡ cond same (Some (held_at h.moment h.ttl (body h.body))) (of_kind body o)
  put_of true h o = refl
  put_of false h o = refl

  pub in_force_of : (now : ℕ) (o : Option (Held B)) → of_kind body (in_force now o) ≡ in_force now (of_kind body o)
  in_force_of now None = refl
  in_force_of now (Some h) = by_test (is_in_force now h) refl
    where
      by_test : (t : Bool) → is_in_force now h ≡ t → of_kind body (cond t (Some h) None) ≡ cond t (Some (held_at h.moment h.ttl (body h.body))) None
      by_test true is = refl
      by_test false is = refl

  pub some_of : (now : ℕ) (o : Option (Held B)) → is_some (in_force now o) ≡ is_some (in_force now (of_kind body o))
  some_of now None = refl
  some_of now (Some h) = by_test (is_in_force now h)
    where
      by_test : (t : Bool) → is_some (cond t (Some h) None) ≡ is_some (cond t (Some (held_at h.moment h.ttl (body h.body))) None)
      by_test true = refl
      by_test false = refl

  pub body_of : (now : ℕ) (o : Option (Held B)) (b : B) → body_at now o ≡ Some b → body_at now (of_kind body o) ≡ Some (body b)
  body_of now None b e = absurd (cc)
  body_of now (Some h) b e = by_test (is_in_force now h) e
    where
      by_test : (t : Bool) → cond t (Some h.body) None ≡ Some b → cond t (Some (body h.body)) None ≡ Some (body b)
      by_test true e = let same : h.body ≡ b = cc in ap (λ x. Some (body x)) same
      by_test false e = absurd (cc)

  pub no_body_of : (now : ℕ) (o : Option (Held B)) → body_at now o ≡ None → body_at now (of_kind body o) ≡ None
  no_body_of now None e = refl
  no_body_of now (Some h) e = by_test (is_in_force now h) e
    where
      by_test : (t : Bool) → cond t (Some h.body) None ≡ None → cond t (Some (body h.body)) None ≡ None
      by_test true e = absurd (cc)
      by_test false e = refl

  abbrev held_or : Held Body → Option (Held Body) → Held Body
  held_or h None = h
  held_or h (Some x) = x

  -- what a kind's is, back from what any kind's is
  pub of_same : ((a b : B) → body a ≡ body b → a ≡ b) → (o p : Option (Held B)) → of_kind body o ≡ of_kind body p → o ≡ p
  of_same back None None e = refl
  of_same back None (Some h) e = absurd (cc)
  of_same back (Some h) None e = absurd (cc)
  of_same back (Some g) (Some h) e =
      let whole : held_at g.moment g.ttl (body g.body) ≡ held_at h.moment h.ttl (body h.body) = ap (held_or (held_at g.moment g.ttl (body g.body))) e in
      let moment : g.moment ≡ h.moment = ap (λ (x : Held Body). x.moment) whole in
      let ttl : g.ttl ≡ h.ttl = ap (λ (x : Held Body). x.ttl) whole in
      let bodies : body g.body ≡ body h.body = ap (λ (x : Held Body). x.body) whole in
      let inside : g.body ≡ h.body = back g.body h.body bodies in
      ap (λ m. Some (held_at m g.ttl g.body)) moment ∙ ap (λ t. Some (held_at h.moment t g.body)) ttl ∙ ap (λ b. Some (held_at h.moment h.ttl b)) inside

pub placed_v4 : (new v4 v6 : Table (List (List ℕ))) (https : Table (List Svcb)) (name : List (List ℕ)) (h : Held (List (List ℕ))) → ((q : List (List ℕ)) → at new q ≡ cond (name_eq name q) (Some h) (at v4 q))
    → (q : List (List ℕ)) (k : Kind) → kept_in new v6 https q k ≡ cond (kind_eq A k && name_eq name q) (Some (held_at h.moment h.ttl (Addresses4 h.body))) (kept_in v4 v6 https q k)
placed_v4 new v4 v6 https name h e q A = ap (of_kind Addresses4) (e q) ∙ put_of Addresses4 (name_eq name q) h (at v4 q)
placed_v4 new v4 v6 https name h e q Aaaa = refl
placed_v4 new v4 v6 https name h e q Https = refl

pub placed_v6 : (new v4 v6 : Table (List (List ℕ))) (https : Table (List Svcb)) (name : List (List ℕ)) (h : Held (List (List ℕ))) → ((q : List (List ℕ)) → at new q ≡ cond (name_eq name q) (Some h) (at v6 q))
    → (q : List (List ℕ)) (k : Kind) → kept_in v4 new https q k ≡ cond (kind_eq Aaaa k && name_eq name q) (Some (held_at h.moment h.ttl (Addresses6 h.body))) (kept_in v4 v6 https q k)
placed_v6 new v4 v6 https name h e q A = refl
placed_v6 new v4 v6 https name h e q Aaaa = ap (of_kind Addresses6) (e q) ∙ put_of Addresses6 (name_eq name q) h (at v6 q)
placed_v6 new v4 v6 https name h e q Https = refl

pub placed_https : (new : Table (List Svcb)) (v4 v6 : Table (List (List ℕ))) (https : Table (List Svcb)) (name : List (List ℕ)) (h : Held (List Svcb)) → ((q : List (List ℕ)) → at new q ≡ cond (name_eq name q) (Some h) (at https q))
    → (q : List (List ℕ)) (k : Kind) → kept_in v4 v6 new q k ≡ cond (kind_eq Https k && name_eq name q) (Some (held_at h.moment h.ttl (Records h.body))) (kept_in v4 v6 https q k)
placed_https new v4 v6 https name h e q A = refl
placed_https new v4 v6 https name h e q Aaaa = refl
placed_https new v4 v6 https name h e q Https = ap (of_kind Records) (e q) ∙ put_of Records (name_eq name q) h (at https q)

-- each kind's table holds the same
pub same_kinds : (v4 v4' v6 v6' : Table (List (List ℕ))) (https https' : Table (List Svcb)) → ((q : List (List ℕ)) → at v4' q ≡ at v4 q) → ((q : List (List ℕ)) → at v6' q ≡ at v6 q) → ((q : List (List ℕ)) → at https' q ≡ at https q)
    → (q : List (List ℕ)) (k : Kind) → kept_in v4' v6' https' q k ≡ kept_in v4 v6 https q k
same_kinds v4 v4' v6 v6' https https' a b c q A = ap (of_kind Addresses4) (a q)
same_kinds v4 v4' v6 v6' https https' a b c q Aaaa = ap (of_kind Addresses6) (b q)
same_kinds v4 v4' v6 v6' https https' a b c q Https = ap (of_kind Records) (c q)

pub nothing_kept : (v4 v6 : Table (List (List ℕ))) (https : Table (List Svcb)) → ((q : List (List ℕ)) → at v4 q ≡ None) → ((q : List (List ℕ)) → at v6 q ≡ None) → ((q : List (List ℕ)) → at https q ≡ None)
    → (q : List (List ℕ)) (k : Kind) → kept_in v4 v6 https q k ≡ None
nothing_kept v4 v6 https a b c q A = ap (of_kind Addresses4) (a q)
nothing_kept v4 v6 https a b c q Aaaa = ap (of_kind Addresses6) (b q)
nothing_kept v4 v6 https a b c q Https = ap (of_kind Records) (c q)

pub purged_kinds : (now : ℕ) (v4 v4' v6 v6' : Table (List (List ℕ))) (https https' : Table (List Svcb)) → ((q : List (List ℕ)) → at v4' q ≡ in_force now (at v4 q)) → ((q : List (List ℕ)) → at v6' q ≡ in_force now (at v6 q)) → ((q : List (List ℕ)) → at https' q ≡ in_force now (at https q))
    → (q : List (List ℕ)) (k : Kind) → kept_in v4' v6' https' q k ≡ in_force now (kept_in v4 v6 https q k)
purged_kinds now v4 v4' v6 v6' https https' a b c q A = ap (of_kind Addresses4) (a q) ∙ in_force_of Addresses4 now (at v4 q)
purged_kinds now v4 v4' v6 v6' https https' a b c q Aaaa = ap (of_kind Addresses6) (b q) ∙ in_force_of Addresses6 now (at v6 q)
purged_kinds now v4 v4' v6 v6' https https' a b c q Https = ap (of_kind Records) (c q) ∙ in_force_of Records now (at https q)

-- later

module _ {B : Type 0} where
  -- what isn't in force at a moment isn't at a later one
  pub in_force_later : (now t : ℕ) (o : Option (Held B)) → now ≤ t → in_force t (in_force now o) ≡ in_force t o
  in_force_later now t None le = refl
  in_force_later now t (Some h) le = by_test (is_in_force now h) refl
    where
      later : (a b ttl m : ℕ) → a ≤ b → nat_lt (a - m) ttl ≡ false → nat_lt (b - m) ttl ≡ false
      later a b ttl m le ended = grind (arith, nat_tests)

      by_test : (w : Bool) → is_in_force now h ≡ w → in_force t (cond w (Some h) None) ≡ in_force t (Some h)
      by_test true is = refl
      by_test false is = sym (ap (λ w. cond w (Some h) None) (later now t h.ttl h.moment le is))

  pub body_is : (t : ℕ) (o : Option (Held B)) → body_at t (in_force t o) ≡ body_at t o
  body_is t None = refl
  body_is t (Some h) = by_test (is_in_force t h) refl
    where
      by_test : (w : Bool) → is_in_force t h ≡ w → body_at t (cond w (Some h) None) ≡ body_at t (Some h)
      by_test true is = refl
      by_test false is = sym (ap (λ w. cond w (Some h.body) None) is)

  pub body_later : (now t : ℕ) (o : Option (Held B)) → now ≤ t → body_at t (in_force now o) ≡ body_at t o
  body_later now t o le = sym (body_is t (in_force now o)) ∙ ap (body_at t) (in_force_later now t o le) ∙ body_is t o

pub answers_stay : (old new : AnswerStore) (now t : ℕ) → now ≤ t → HoldsInForce old new now → (name : List (List ℕ)) (kind : Kind) → body_at t (kept new name kind) ≡ body_at t (kept old name kind)
answers_stay old new now t le holds name kind = ap (body_at t) (holds name kind) ∙ body_later now t (kept old name kind) le

pub records_back : (a b : List Svcb) → Records a ≡ Records b → a ≡ b
records_back a b e = cc

pub records_stay : (old new : AnswerStore) (now t : ℕ) → now ≤ t → HoldsInForce old new now → (name : List (List ℕ)) → body_at t (https_held new name) ≡ body_at t (https_held old name)
records_stay old new now t le holds name =
    let same : https_held new name ≡ in_force now (https_held old name) = of_same Records records_back (https_held new name) (in_force now (https_held old name)) (holds name Https ∙ sym (in_force_of Records now (https_held old name))) in
    ap (body_at t) same ∙ body_later now t (https_held old name) le

-- stores that hold in force the same have one count
count_over : (a b : AnswerStore) (t n : ℕ) → ((name : List (List ℕ)) (kind : Kind) → in_force t (kept b name kind) ≡ in_force t (kept a name kind)) → IsCount a t n → IsCount b t n
count_over a b t n same count = record {
  names = count.names;
  distinct = count.distinct;
  members = λ name kind. count.members name kind ∙ ap is_some (sym (same name kind));
  sum = count.sum;
}

pub count_stays : (old new : AnswerStore) (now t n : ℕ) → now ≤ t → HoldsInForce old new now → IsCount new t n ↔ IsCount old t n
count_stays old new now t n le holds =
    let same : (name : List (List ℕ)) (kind : Kind) → in_force t (kept new name kind) ≡ in_force t (kept old name kind) = λ name kind. ap (in_force t) (holds name kind) ∙ in_force_later now t (kept old name kind) le in
    (count_over new old t n (λ name kind. sym (same name kind)), count_over old new t n same)

pub one_sum : (store : AnswerStore) (now m n : ℕ) → IsCount store now m → IsCount store now n → m ≡ n
one_sum store now m n a b =
    let same = λ (kind : Kind). length-from_same_keys same_names (a.names kind) (b.names kind) (a.distinct kind) (b.distinct kind) (λ q. a.members q kind ∙ sym (b.members q kind)) in
    a.sum ∙ ap (λ x. x + length (a.names Aaaa) + length (a.names Https)) (same A)
    ∙ ap (λ x. length (b.names A) + x + length (a.names Https)) (same Aaaa)
    ∙ ap (λ x. length (b.names A) + length (b.names Aaaa) + x) (same Https) ∙ sym b.sum
