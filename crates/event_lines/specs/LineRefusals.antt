-- The table of refusals of lines, each with its place, by how the line splits. A further kind is one case of `kinds`, or of `server_kinds`.
use Rattle.std.specs.Prelude.{◌≡◌, ◌≢◌, ◌⊎◌, ℕ, ◌+◌, ◌≤◌, List, [], ◌∷◌, ◌++◌, length, codes}
use Rattle.dns_names.specs.TextGrammar.{SpellsText}
use Rattle.origin_values.specs.HostGrammar.{SpellsAddr}
use Rattle.origin_values.specs.OriginGrammar.{SpellsOrigin}
use Rattle.origin_values.specs.declared.address.Addr.{Addr}
use Rattle.origin_values.specs.declared.origin.Origin.{Origin}
use Rattle.origin_values.specs.declared.proto.Proto.{Proto}
use Rattle.altsvc_grammar.specs.declared.alt.Alt.{Alt}
use Rattle.coalescing.specs.NamesGrammar.{SpellsNames}
use Rattle.coalescing.specs.declared.cert_name.CertName.{CertName}
use Rattle.event_lines.specs.EventTexts.{answer_kind_text}
use Rattle.event_lines.specs.Limits.{most_short, most_long, most_ttl}
use Rattle.event_lines.specs.LineGrammar.{SpellsPort, SpellsStatus, SpellsProto, SpellsOctets, SpellsAnswerKind, SpellsItem, SpellItems, IsSkipped, SpellsLine}
use Rattle.event_lines.specs.WordGrammar.{SpellsNumber, NoSpace, AreApart, spaced}
use Rattle.event_lines.specs.ResponseGrammar.{Field, is_field_byte, is_word_byte, SpellsField, SpellFields, tabbed, most_fields}
use Rattle.event_lines.specs.ServerLines.{SpellsAlts}
use Rattle.field_text.specs.Runs.{AllIn, BeginsIn}
use Rattle.event_lines.specs.declared.answer_kind.AnswerKind.{AnswerKind}
use Rattle.event_lines.specs.declared.event.Event.{Event}
use Rattle.event_lines.specs.declared.refusal.LineRefusal.{LineRefusal}
use Rattle.event_lines.specs.declared.refusal.LineRefusal.TheVariants.{BadMoment, UnknownKind, BadField, ExtraField}

-- the forms of fields
pub data Form : Type 0 where
  OfNumber : (most : ℕ) → Form
  OfPort : Form
  OfProto : Form
  OfAddr : Form
  OfOrigin : Form
  OfNames : Form
  OfOctets : Form
  OfName : Form
  OfAnswerKind : Form

-- a word is of a form
abbrev pub HasForm : Form → List ℕ → Type 0
HasForm (OfNumber most) word = (n : ℕ) × SpellsNumber most word n
HasForm OfPort word = (port : ℕ) × SpellsPort word port
HasForm OfProto word = (proto : Proto) × SpellsProto word proto
HasForm OfAddr word = (addr : Addr) × SpellsAddr word addr
HasForm OfOrigin word = (origin : Origin) × SpellsOrigin word origin
HasForm OfNames word = (names : List CertName) × SpellsNames word names
HasForm OfOctets word = (octets : List ℕ) × SpellsOctets word octets
HasForm OfName word = (name : List (List ℕ)) × SpellsText word name
HasForm OfAnswerKind word = (kind : AnswerKind) × SpellsAnswerKind word kind

-- words of these forms in order, and behind them nothing, or a status and the fields of a response, or the kind of an answer,
-- its TTL and what it brings, or a value of Alt-Svc up to the end
pub data Forms : Type 0 where
  NoMore : Forms
  Then : (form : Form) → (more : Forms) → Forms
  StatusAndFields : Forms
  KindAndItems : Forms
  ValueToEnd : Forms

-- the kinds, each with the forms of its fields
pub record Kind : Type 0 where
  pub name : List ℕ
  pub forms : Forms

-- the kinds of the server's acts
abbrev pub server_kinds : List Kind
server_kinds =
    record { name = codes "serve"; forms = Then OfOrigin NoMore }
    ∷ record { name = codes "unserve"; forms = Then OfOrigin NoMore }
    ∷ record { name = codes "offer"; forms = Then OfOrigin ValueToEnd }
    ∷ record { name = codes "withdraw"; forms = Then OfOrigin NoMore }
    ∷ record { name = codes "announce"; forms = NoMore }
    ∷ record { name = codes "deliver"; forms = Then (OfNumber most_short) (Then (OfNumber most_long) NoMore) }
    ∷ record { name = codes "ask"; forms = Then (OfNumber most_short) NoMore }
    ∷ []

-- all kinds
abbrev pub kinds : List Kind
kinds =
    record { name = codes "request"; forms = Then (OfNumber most_short) (Then OfOrigin NoMore) }
    ∷ record { name = codes "opened"; forms = Then (OfNumber most_long) (Then OfProto (Then OfAddr (Then OfPort (Then OfNames NoMore)))) }
    ∷ record { name = codes "failed"; forms = Then (OfNumber most_long) NoMore }
    ∷ record { name = codes "closed"; forms = Then (OfNumber most_long) NoMore }
    ∷ record { name = codes "response"; forms = Then (OfNumber most_short) StatusAndFields }
    ∷ record { name = codes "input"; forms = Then (OfNumber most_long) (Then OfOctets NoMore) }
    ∷ record { name = codes "answer"; forms = Then OfName KindAndItems }
    ∷ record { name = codes "network"; forms = NoMore }
    ∷ record { name = codes "tick"; forms = NoMore }
    ∷ record { name = codes "who"; forms = Then OfOrigin NoMore }
    ∷ record { name = codes "stats"; forms = NoMore }
    ∷ server_kinds

-- the first kind of this name has fields of these forms
abbrev pub IsAmong : List Kind → List ℕ → Forms → Type 0
IsAmong [] name forms = ⊥
IsAmong (kind ∷ more) name forms = ((name ≡ kind.name) × (forms ≡ kind.forms)) ⊎ ((name ≢ kind.name) × IsAmong more name forms)

-- no kind has this name
abbrev pub IsNone : List Kind → List ℕ → Type 0
IsNone [] name = Unit {0}
IsNone (kind ∷ more) name = (name ≢ kind.name) × IsNone more name

-- nothing, or what begins with a space
abbrev pub EndsWord : List ℕ → Type 0
EndsWord [] = Unit {0}
EndsWord (b ∷ bs) = b ≡ 32

-- a word in front, as long as can be, which may be empty
pub record IsFront (text word behind : List ℕ) : Type 0 where
  pub spelled : text ≡ word ++ behind
  pub apart : NoSpace word
  pub end : EndsWord behind

-- a space, and the word behind it
pub record IsNext (text word behind : List ℕ) : Type 0 where
  pub spelled : text ≡ 32 ∷ (word ++ behind)
  pub apart : NoSpace word
  pub end : EndsWord behind

-- the field is missing: the place is the line's length
pub record IsMissing (begin : ℕ) (text : List ℕ) (place : ℕ) (reason : LineRefusal) : Type 0 where
  pub nothing : text ≡ []
  pub at : place ≡ begin
  pub why : reason ≡ BadField

-- the next word isn't of the form: the place is its first byte
pub record IsBad (form : Form) (begin : ℕ) (text : List ℕ) (place : ℕ) (reason : LineRefusal) : Type 0 where
  pub word : List ℕ
  pub behind : List ℕ
  pub next : IsNext text word behind
  pub bad : ¬ (HasForm form word)
  pub at : place ≡ begin + 1
  pub why : reason ≡ BadField

-- a field follows the last one: the place is the first byte behind the space before it
pub record IsExtra (begin : ℕ) (text : List ℕ) (place : ℕ) (reason : LineRefusal) : Type 0 where
  pub more : text ≢ []
  pub at : place ≡ begin + 1
  pub why : reason ≡ ExtraField

-- the next word is of the form, and what holds of what stands behind it
pub record IsBehind (form : Form) (begin : ℕ) (text : List ℕ) (Holds : ℕ → List ℕ → Type 0) : Type 0 where
  pub word : List ℕ
  pub behind : List ℕ
  pub next : IsNext text word behind
  pub good : HasForm form word
  pub later : Holds (begin + 1 + length word) behind

-- a space, and the word of a status behind it, up to a space, a tab or the end
pub record IsStatusWord (text word behind : List ℕ) : Type 0 where
  pub spelled : text ≡ 32 ∷ (word ++ behind)
  pub apart : AllIn is_word_byte word
  pub end : ¬ (BeginsIn is_word_byte behind)

-- it isn't a status: the place is its first byte
pub record IsBadStatus (begin : ℕ) (text : List ℕ) (place : ℕ) (reason : LineRefusal) : Type 0 where
  pub word : List ℕ
  pub behind : List ℕ
  pub next : IsStatusWord text word behind
  pub bad : (status : ℕ) → ¬ (SpellsStatus word status)
  pub at : place ≡ begin + 1
  pub why : reason ≡ BadField

-- a space follows the status: the place is the byte behind it
pub record IsExtraBehindStatus (begin : ℕ) (text : List ℕ) (place : ℕ) (reason : LineRefusal) : Type 0 where
  pub word : List ℕ
  pub behind : List ℕ
  pub status : ℕ
  pub spelled : text ≡ 32 ∷ (word ++ 32 ∷ behind)
  pub of_status : SpellsStatus word status
  pub at : place ≡ begin + 1 + length word + 1
  pub why : reason ≡ ExtraField

-- the first field of a response that isn't one, or the 65th: the place is its first byte
pub record IsBadResponseField (begin : ℕ) (text : List ℕ) (place : ℕ) (reason : LineRefusal) : Type 0 where
  pub word : List ℕ
  pub status : ℕ
  pub good : List (List ℕ)
  pub fields : List Field
  pub bad : List ℕ
  pub behind : List ℕ
  pub spelled : text ≡ 32 ∷ (word ++ (tabbed good ++ 9 ∷ (bad ++ behind)))
  pub of_status : SpellsStatus word status
  pub of_good : SpellFields good fields
  pub within : length good ≤ most_fields
  pub apart : AllIn is_field_byte bad
  pub end : ¬ (BeginsIn is_field_byte behind)
  pub wrong : ((field : Field) → ¬ (SpellsField bad field)) ⊎ (length good ≡ most_fields)
  pub at : place ≡ begin + 1 + length word + length (tabbed good) + 1
  pub why : reason ≡ BadField

-- a status and the fields of a response are to stand in a text that begins at this place
abbrev pub StatusRefusedAt : ℕ → List ℕ → ℕ → LineRefusal → Type 0
StatusRefusedAt begin text place reason =
    IsMissing begin text place reason
    ⊎ (IsBadStatus begin text place reason
    ⊎ (IsExtraBehindStatus begin text place reason ⊎ IsBadResponseField begin text place reason))

-- the first word that is no item of the kind, behind words that are: the place is its first byte
pub record IsBadItem (kind : AnswerKind) (begin : ℕ) (text : List ℕ) (place : ℕ) (reason : LineRefusal) : Type 0 where
  pub good : List (List ℕ)
  pub items : List (List ℕ)
  pub word : List ℕ
  pub behind : List ℕ
  pub spelled : text ≡ spaced good ++ 32 ∷ (word ++ behind)
  pub good_apart : AreApart good
  pub apart : NoSpace word
  pub end : EndsWord behind
  pub of_good : SpellItems kind good items
  pub bad : (item : List ℕ) → ¬ (SpellsItem kind word item)
  pub at : place ≡ begin + length (spaced good) + 1
  pub why : reason ≡ BadField

-- a TTL and items of a kind are to stand in a text that begins at this place
abbrev pub TtlRefusedAt : AnswerKind → ℕ → List ℕ → ℕ → LineRefusal → Type 0
TtlRefusedAt kind begin text place reason =
    IsMissing begin text place reason
    ⊎ (IsBad (OfNumber most_ttl) begin text place reason
    ⊎ IsBehind (OfNumber most_ttl) begin text (λ next rest. IsBadItem kind next rest place reason))

-- the next word is that of a kind of answers, and what holds of what stands behind it
pub record IsBehindKind (begin : ℕ) (text : List ℕ) (Holds : AnswerKind → ℕ → List ℕ → Type 0) : Type 0 where
  pub kind : AnswerKind
  pub behind : List ℕ
  pub next : IsNext text (answer_kind_text kind) behind
  pub later : Holds kind (begin + 1 + length (answer_kind_text kind)) behind

-- a kind of answers, a TTL and items are to stand in a text that begins at this place
abbrev pub KindRefusedAt : ℕ → List ℕ → ℕ → LineRefusal → Type 0
KindRefusedAt begin text place reason =
    IsMissing begin text place reason
    ⊎ (IsBad OfAnswerKind begin text place reason
    ⊎ IsBehindKind begin text (λ kind next rest. TtlRefusedAt kind next rest place reason))

-- what is left behind a space is no value of Alt-Svc, or `clear`: the place is its first byte
pub record IsNoOffer (begin : ℕ) (text : List ℕ) (place : ℕ) (reason : LineRefusal) : Type 0 where
  pub value : List ℕ
  pub spelled : text ≡ 32 ∷ value
  pub bad : (alts : List Alt) → ¬ (SpellsAlts value alts)
  pub at : place ≡ begin + 1
  pub why : reason ≡ BadField

-- a value of Alt-Svc other than `clear` is to stand in a text that begins at this place, up to the end
abbrev pub ValueRefusedAt : ℕ → List ℕ → ℕ → LineRefusal → Type 0
ValueRefusedAt begin text place reason = IsMissing begin text place reason ⊎ IsNoOffer begin text place reason

-- fields of these forms are to stand in a text that begins at this place, and from left to right this is the first
-- that is wrong
abbrev pub FieldsRefusedAt : Forms → ℕ → List ℕ → ℕ → LineRefusal → Type 0
FieldsRefusedAt NoMore begin text place reason = IsExtra begin text place reason
FieldsRefusedAt StatusAndFields begin text place reason = StatusRefusedAt begin text place reason
FieldsRefusedAt KindAndItems begin text place reason = KindRefusedAt begin text place reason
FieldsRefusedAt ValueToEnd begin text place reason = ValueRefusedAt begin text place reason
FieldsRefusedAt (Then form forms) begin text place reason =
    IsMissing begin text place reason
    ⊎ (IsBad form begin text place reason
    ⊎ IsBehind form begin text (λ next rest. FieldsRefusedAt forms next rest place reason))

-- what stands before the first space, or the whole line, is no moment
pub record IsBadMoment (line : List ℕ) (place : ℕ) : Type 0 where
  pub word : List ℕ
  pub behind : List ℕ
  pub front : IsFront line word behind
  pub not_skipped : ¬ (IsSkipped line)
  pub bad : (now : ℕ) → ¬ (SpellsNumber most_short word now)
  pub at : place ≡ 0

-- the kind is missing: the place is the line's length
pub record IsNoKind (line : List ℕ) (place : ℕ) : Type 0 where
  pub now : ℕ
  pub of_moment : SpellsNumber most_short line now
  pub at : place ≡ length line

-- the kind is none of those that there are: the place is its first byte
pub record IsOtherKind (line : List ℕ) (place : ℕ) : Type 0 where
  pub moment : List ℕ
  pub text : List ℕ
  pub name : List ℕ
  pub behind : List ℕ
  pub now : ℕ
  pub spelled : line ≡ moment ++ text
  pub of_moment : SpellsNumber most_short moment now
  pub next : IsNext text name behind
  pub none : IsNone kinds name
  pub at : place ≡ length moment + 1

-- a field of the kind is wrong, or one too many
pub record IsWrongField (line : List ℕ) (place : ℕ) (reason : LineRefusal) : Type 0 where
  pub moment : List ℕ
  pub text : List ℕ
  pub name : List ℕ
  pub behind : List ℕ
  pub forms : Forms
  pub now : ℕ
  pub spelled : line ≡ moment ++ text
  pub of_moment : SpellsNumber most_short moment now
  pub next : IsNext text name behind
  pub among : IsAmong kinds name forms
  pub fields : FieldsRefusedAt forms (length moment + 1 + length name) behind place reason

-- the table
abbrev pub LineRefusedAt : List ℕ → ℕ → LineRefusal → Type 0
LineRefusedAt line place BadMoment = IsBadMoment line place
LineRefusedAt line place UnknownKind = IsNoKind line place ⊎ IsOtherKind line place
LineRefusedAt line place BadField = IsWrongField line place BadField
LineRefusedAt line place ExtraField = IsWrongField line place ExtraField

-- exactly one event or exactly one refusal, and never both
pub record OneLine (line : List ℕ) : Type 0 where
  pub some : ((now : ℕ) × (event : Event) × SpellsLine line now event) ⊎ ((place : ℕ) × (reason : LineRefusal) × LineRefusedAt line place reason)
  pub one_event : (m n : ℕ) (a b : Event) → SpellsLine line m a → SpellsLine line n b → (m ≡ n) × (a ≡ b)
  pub one_refusal : (p q : ℕ) (r s : LineRefusal) → LineRefusedAt line p r → LineRefusedAt line q s → (p ≡ q) × (r ≡ s)
  pub not_both : (now : ℕ) (event : Event) (place : ℕ) (reason : LineRefusal) → SpellsLine line now event → LineRefusedAt line place reason → ⊥
