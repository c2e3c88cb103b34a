-- The payload of an ORIGIN frame (RFC 8336 2.1), beside what it lists, by how it splits; and the table of refusals.
use Rattle.std.specs.Prelude.{◌≡◌, ◌≢◌, ◌⊎◌, ℕ, ◌+◌, ◌*◌, ◌<◌, List, [], ◌∷◌, ◌++◌, length, bit_and}
use Rattle.origin_values.specs.AsciiOrigin.{SpellsAscii, IsNoOrigin}
use Rattle.origin_values.specs.declared.origin.Origin.{Origin}
use Rattle.origin_frame.specs.declared.listed.Listed.{Listed}
use Rattle.origin_frame.specs.declared.refusal.OriginFrameRefusal.{OriginFrameRefusal}
use Rattle.origin_frame.specs.declared.refusal.OriginFrameRefusal.TheVariants.{NotStreamZero, Flags, EntryPast}

-- octets are one entry and a rest: the entry's length in two octets, and that many octets
pub record BeginsWithEntry (octets entry rest : List ℕ) : Type 0 where
  pub high : ℕ
  pub low : ℕ
  pub spelled : octets ≡ high ∷ low ∷ (entry ++ rest)
  pub long : length entry ≡ high * 256 + low

-- octets are these entries, one after the other
abbrev pub AreEntries : List ℕ → List (List ℕ) → Type 0
AreEntries octets [] = octets ≡ []
AreEntries octets (entry ∷ entries) = (rest : List ℕ) × BeginsWithEntry octets entry rest × AreEntries rest entries

-- the origins that entries are the ASCII text of (RFC 6454 6.2), in order, and the number of the entries that are no
-- origin's
abbrev pub AreListed : List (List ℕ) → List Origin → ℕ → Type 0
AreListed [] origins skipped = (origins ≡ []) × (skipped ≡ 0)
AreListed (entry ∷ entries) origins skipped =
    ((origin : Origin) × (more : List Origin) × (origins ≡ origin ∷ more) × SpellsAscii entry origin × AreListed entries more skipped)
    ⊎ ((count : ℕ) × (skipped ≡ count + 1) × IsNoOrigin entry × AreListed entries origins count)

-- none of the flags 1, 2, 4 and 8 is set, which make 15 together
abbrev pub NoFlags : ℕ → Type 0
NoFlags flags = bit_and flags 15 ≡ 0

-- a frame on stream 0 without these flags lists what its entries give
pub record SpellsListed (stream flags : ℕ) (payload : List ℕ) (listed : Listed) : Type 0 where
  pub on_zero : stream ≡ 0
  pub no_flags : NoFlags flags
  pub entries : List (List ℕ)
  pub spelled : AreEntries payload entries
  pub listing : AreListed entries listed.origins listed.skipped

-- octets that begin an entry but aren't a whole one: one octet, or less than the two octets say
abbrev pub IsPast : List ℕ → Type 0
IsPast [] = ⊥
IsPast (high ∷ []) = Unit {0}
IsPast (high ∷ low ∷ octets) = length octets < high * 256 + low

-- behind whole entries stands one that passes the end, at its first octet
pub record IsEntryPast (payload : List ℕ) (place : ℕ) : Type 0 where
  pub entries : List (List ℕ)
  pub front : List ℕ
  pub rest : List ℕ
  pub spelled : payload ≡ front ++ rest
  pub whole : AreEntries front entries
  pub past : IsPast rest
  pub at : place ≡ length front

-- the table of refusals, in the order in which they are tried (RFC 8336 2.1 and 2.2)
abbrev pub ListedRefusedAt : ℕ → ℕ → List ℕ → ℕ → OriginFrameRefusal → Type 0
ListedRefusedAt stream flags payload place NotStreamZero = (stream ≢ 0) × (place ≡ 0)
ListedRefusedAt stream flags payload place Flags = (stream ≡ 0) × (NoFlags flags → ⊥) × (place ≡ 0)
ListedRefusedAt stream flags payload place EntryPast = (stream ≡ 0) × NoFlags flags × IsEntryPast payload place

-- exactly one list or exactly one refusal, and never both
pub record OneListed (stream flags : ℕ) (payload : List ℕ) : Type 0 where
  pub some : ((listed : Listed) × SpellsListed stream flags payload listed)
      ⊎ ((place : ℕ) × (reason : OriginFrameRefusal) × ListedRefusedAt stream flags payload place reason)
  pub one_list : (a b : Listed) → SpellsListed stream flags payload a → SpellsListed stream flags payload b → a ≡ b
  pub one_refusal : (p q : ℕ) (r s : OriginFrameRefusal) → ListedRefusedAt stream flags payload p r
      → ListedRefusedAt stream flags payload q s → (p ≡ q) × (r ≡ s)
  pub not_both : (listed : Listed) (place : ℕ) (reason : OriginFrameRefusal) → SpellsListed stream flags payload listed
      → ListedRefusedAt stream flags payload place reason → ⊥
