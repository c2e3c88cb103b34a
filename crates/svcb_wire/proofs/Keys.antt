-- The reading of keys against their octets.
use Rattle.std.proofs.Common.{◌≡◌, ℕ, ◌<◌, ◌≤◌, Bool, true, false, cond, nat_lt, List, [], ◌∷◌, ◌++◌, length, drop, Option, Some, None, refl, ap, sym, ◌∙◌, arith}
use Rattle.std.proofs.lemmas.List.{append_assoc, append-nil}
use Rattle.byteorder.specs.Endian.{big_number, big_bytes}
use Rattle.dns_names.specs.Names.{AreBytes}
use Rattle.svcb_wire.specs.Octets.{keys_octets}
use Rattle.svcb_wire.specs.Forms.{AreRising}
use Rattle.svcb_wire.specs.ValueReading.{keys_behind}
use Rattle.alt_base.proofs.Numbers.{lt_true, lt_false, true_lt}
use Rattle.svcb_wire.proofs.Pairs.{pair_reads, pair_fits, pair_back}

-- the keys that were read, behind some
pub record KeysBehind (keys : List ℕ) (last : ℕ) (x r : List ℕ) : Type 0 where
  pub more : List ℕ
  pub all : r ≡ keys ++ more
  pub octets : keys_octets more ≡ x
  pub rising : AreRising last more

no_keys : (keys r : List ℕ) (last : ℕ) → (let a : Option (List ℕ) = Some keys in a) ≡ Some r → KeysBehind keys last [] r
no_keys keys r last e = let same : r ≡ keys = cc in record { more = []; all = same ∙ sym (append-nil keys); octets = refl; rising = tt }

key_says : (t : Bool) (a b last key : ℕ) (keys rest r : List ℕ) → a < 256 → b < 256 → key ≡ big_number 2 (a ∷ b ∷ []) → nat_lt last key ≡ t
    → cond t (keys_behind (keys ++ key ∷ []) key rest) None ≡ Some r
    → (keys_behind (keys ++ key ∷ []) key rest ≡ Some r → KeysBehind (keys ++ key ∷ []) key rest r)
    → KeysBehind keys last (a ∷ b ∷ rest) r
key_says false a b last key keys rest r h i is p e next = cc
key_says true a b last key keys rest r h i is p e next =
    let n = next e in record {
      more = key ∷ n.more;
      all = n.all ∙ append_assoc keys (key ∷ []) n.more;
      octets = ap (λ xs. big_bytes 2 key ++ xs) n.octets ∙ ap (λ k. big_bytes 2 k ++ rest) is ∙ ap (λ xs. xs ++ rest) (pair_back a b [] h i);
      rising = (true_lt _ _ p, omega (arith, is, pair_fits a b [] h i), n.rising);
    }

pub keys_says : (x keys r : List ℕ) (last : ℕ) → AreBytes x → keys_behind keys last x ≡ Some r → KeysBehind keys last x r
keys_says [] keys r last bytes e = no_keys keys r last e
keys_says (a ∷ []) keys r last bytes e = cc
keys_says (a ∷ b ∷ rest) keys r last bytes e =
    key_says _ a b last _ keys rest r bytes.0 bytes.1.0 refl refl e (λ f. keys_says rest (keys ++ big_number 2 (a ∷ b ∷ []) ∷ []) r (big_number 2 (a ∷ b ∷ [])) bytes.1.1 f)

one_key : (n key last : ℕ) (keys rest : List ℕ) → n ≡ key → last < key → cond (nat_lt last n) (keys_behind (keys ++ n ∷ []) n rest) None ≡ keys_behind (keys ++ key ∷ []) key rest
one_key n key last keys rest is above = let t : nat_lt last key ≡ true = lt_true _ _ above in rw (is, t) refl

pub keys_reads : (more keys : List ℕ) (last : ℕ) → AreRising last more → keys_behind keys last (keys_octets more) ≡ Some (keys ++ more)
keys_reads [] keys last h = ap Some (sym (append-nil keys))
keys_reads (key ∷ more) keys last h =
    one_key _ key last keys (keys_octets more) (pair_reads key [] h.1) h.0 ∙ keys_reads more (keys ++ key ∷ []) key h.2 ∙ ap Some (append_assoc keys (key ∷ []) more)

-- the loop: a key more
pub key_read : (x keys : List ℕ) (last : ℕ) → 2 ≤ length x → last < big_number 2 x → keys_behind keys last x ≡ keys_behind (keys ++ big_number 2 x ∷ []) (big_number 2 x) (drop 2 x)
key_read [] keys last some above = absurd (omega arith)
key_read (a ∷ []) keys last some above = absurd (omega arith)
key_read (a ∷ b ∷ rest) keys last some above = one_key _ (big_number 2 (a ∷ b ∷ rest)) last keys rest refl above

-- the loop: no key more
pub key_cut : (x keys : List ℕ) (last : ℕ) → 1 ≤ length x → length x < 2 → keys_behind keys last x ≡ None
key_cut [] keys last some cut = absurd (omega arith)
key_cut (a ∷ []) keys last some cut = refl
key_cut (a ∷ b ∷ rest) keys last some cut = absurd (omega arith)

pub key_low : (x keys : List ℕ) (last : ℕ) → 2 ≤ length x → big_number 2 x ≤ last → keys_behind keys last x ≡ None
key_low [] keys last some low = absurd (omega arith)
key_low (a ∷ []) keys last some low = absurd (omega arith)
key_low (a ∷ b ∷ rest) keys last some low = let t : nat_lt last (big_number 2 (a ∷ b ∷ [])) ≡ false = lt_false _ _ low in rw t refl

-- one key on
pub key_on : (x rest keys new value : List ℕ) (last key : ℕ) → 2 ≤ length x → last < key → key ≡ big_number 2 x → new ≡ keys ++ key ∷ [] → rest ≡ drop 2 x → keys_behind keys last x ≡ keys_behind [] 0 value
    → keys_behind new key rest ≡ keys_behind [] 0 value
key_on x rest keys new value last key some above is pushed behind so_far =
    rw (pushed, behind, is) (sym (key_read x keys last some (omega (arith, above, is))) ∙ so_far)
