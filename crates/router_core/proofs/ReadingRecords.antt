-- Records that are read one after the other, up to the first that is malformed.
use Rattle.std.proofs.Common.{◌≡◌, ℕ, suc, ◌+◌, List, [], ◌∷◌, ◌++◌, drop, Result, Ok, Err, refl, ap, sym, ◌∙◌, append_assoc, append-nil, arith}
use Rattle.alt_base.specs.declared.refusal.At.{At}
use Rattle.svcb_wire.specs.declared.refusal.WireRefusal.{WireRefusal}
use Rattle.svcb_wire.specs.declared.svcb.Svcb.{Svcb}
use Rattle.svcb_wire.specs.RecordReading.{read_record}
use Rattle.route_events.specs.Answers.{Records, in_front, read_records}

-- behind some records that were read
abbrev pub behind_records : List Svcb → Records → Records
behind_records front (Ok rs) = Ok (front ++ rs)
behind_records front (Err first) = Err first

moved : (records : List Svcb) (record_ : Svcb) (number : ℕ) (rest : Records) → behind_records records (in_front number (Ok record_) rest) ≡ behind_records (records ++ record_ ∷ []) rest
moved records record_ number (Ok rs) = ap Ok (sym (append_assoc records (record_ ∷ []) rs))
moved records record_ number (Err first) = refl

-- how far a reading has come: what is read from here on, behind what was read, is what is read in the whole
abbrev pub ReadSoFar : List (List ℕ) → ℕ → List Svcb → Type 0
ReadSoFar all i records = behind_records records (read_records (suc i) (drop i all)) ≡ read_records 1 all

numbered : (i : ℕ) → suc (i + 1) ≡ suc (suc i)
numbered i = omega arith

plus_one : (i : ℕ) → i + 1 ≡ suc i
plus_one i = omega arith

-- one more record
pub read_on : (all : List (List ℕ)) (i : ℕ) (records : List Svcb) (octets : List ℕ) (record_ : Svcb) → drop i all ≡ octets ∷ drop (i + 1) all → read_record octets ≡ Ok record_ → ReadSoFar all i records → ReadSoFar all (i + 1) (records ++ record_ ∷ [])
read_on all i records octets record_ next reads so_far =
    ap (λ n. behind_records (records ++ record_ ∷ []) (read_records n (drop (i + 1) all))) (numbered i)
    ∙ sym (moved records record_ (suc i) (read_records (suc (suc i)) (drop (i + 1) all)))
    ∙ ap (λ (w : Result Svcb (At WireRefusal)). behind_records records (in_front (suc i) w (read_records (suc (suc i)) (drop (i + 1) all)))) (sym reads)
    ∙ ap (λ xs. behind_records records (read_records (suc i) xs)) (sym next)
    ∙ so_far

-- one that is malformed
pub read_stops : (all : List (List ℕ)) (i : ℕ) (records : List Svcb) (octets : List ℕ) (at : At WireRefusal) → drop i all ≡ octets ∷ drop (i + 1) all → read_record octets ≡ Err at → ReadSoFar all i records → Err (i + 1, at) ≡ read_records 1 all
read_stops all i records octets at next reads so_far =
    ap (λ (n : ℕ). behind_records records (Err (n, at))) (plus_one i)
    ∙ ap (λ (w : Result Svcb (At WireRefusal)). behind_records records (in_front (suc i) w (read_records (suc (suc i)) (drop (i + 1) all)))) (sym reads)
    ∙ ap (λ xs. behind_records records (read_records (suc i) xs)) (sym next)
    ∙ so_far

-- none is left
pub read_whole : (all : List (List ℕ)) (i : ℕ) (records : List Svcb) → drop i all ≡ [] → ReadSoFar all i records → Ok records ≡ read_records 1 all
read_whole all i records none so_far =
    ap Ok (sym (append-nil records)) ∙ ap (λ xs. behind_records records (read_records (suc i) xs)) (sym none) ∙ so_far
