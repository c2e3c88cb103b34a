-- The cases of a line: skipped, without a moment, without a kind, or with both.
use Rattle.std.proofs.Common.{◌≡◌, ℕ, ◌+◌, Bool, true, false, cond, List, [], ◌∷◌, ◌++◌, length, Option, Some, None, Result, Ok, append-nil, refl, ap, sym, ◌∙◌, subst, arith}
use Rattle.std.specs.Str.Parse.{AllDigits, IsNumeral}
use Rattle.std.proofs.lemmas.Str.Parse.{digit_from_value}
use Rattle.alt_base.proofs.Numbers.{eq_false, eq_true, true_eq}
use Rattle.alt_base.specs.declared.refusal.At.{At}
use Rattle.event_lines.specs.Fields.{number_of}
use Rattle.event_lines.specs.Limits.{most_short}
use Rattle.event_lines.specs.Parts.{Part, Reading, ◌>>=◌, before_space, from_space, next_word, value_or, refused}
use Rattle.event_lines.specs.LineReading.{kind_reading, end_reading, event_reading, line_reading, is_skipped}
use Rattle.event_lines.specs.LineGrammar.{IsSkipped}
use Rattle.event_lines.specs.WordGrammar.{SpellsNumber, NoSpace, spaced}
use Rattle.event_lines.specs.LineRefusals.{EndsWord, IsFront, IsNext}
use Rattle.event_lines.specs.declared.event.Event.{Event}
use Rattle.event_lines.specs.declared.event.Event.TheVariants.{Skip}
use Rattle.event_lines.specs.declared.refusal.LineRefusal.{LineRefusal}
use Rattle.event_lines.specs.declared.refusal.LineRefusal.TheVariants.{BadMoment, UnknownKind}
use Rattle.event_lines.proofs.NumberTexts.{number_sound, number_complete}
use Rattle.event_lines.proofs.Spaces.{IsInner, no_space_from, before_front, from_front, word_ends, front_of, next_reads, next_spaced, Next, Nothing, More, next_of}
use Rattle.event_lines.proofs.Steps.{not_skipped}

abbrev pub Said : Type 0
Said = Result (ℕ × Event) (At LineRefusal)

abbrev pub part : List ℕ → ℕ → Part
part text place = record { text = text; place = place }

abbrev pub bad_line : ℕ → LineRefusal → Said
bad_line place reason = refused place reason

abbrev pub said : ℕ → Event → Said
said now event = Ok (now, event)

-- a kind's event at its moment, where nothing is left
abbrev pub whole : ℕ → Reading Event → Said
whole now reading = reading >>= λ (event : Event × Part). end_reading event.1 >>= λ (end : Unit {0}). let said : Said = Ok (now, event.0) in said

-- what follows the moment
abbrev pub behind_moment : ℕ → Part → Said
behind_moment now rest = next_word UnknownKind rest >>= λ (kind : Part × Part). whole now (kind_reading kind.0 kind.1)

skip_from : (line : List ℕ) → IsSkipped line → is_skipped line ≡ true
skip_from [] h = refl
skip_from (b ∷ bs) h = eq_true b 35 h

skip_to : (line : List ℕ) → is_skipped line ≡ true → IsSkipped line
skip_to [] h = tt
skip_to (b ∷ bs) h = true_eq b 35 h

pub skip_other : (line : List ℕ) → ¬ (IsSkipped line) → is_skipped line ≡ false
skip_other [] h = absurd (h tt)
skip_other (b ∷ bs) h = eq_false b 35 h

pub skip_reads : (line : List ℕ) → IsSkipped line → line_reading line ≡ Ok (0, Skip)
skip_reads line h = ap (λ (t : Bool). let said : Said = cond t (Ok (0, Skip)) (event_reading line) in said) (skip_from line h)

-- digits are neither spaces nor a `#`
digits_apart : (ds : List ℕ) → AllDigits 10 ds → NoSpace ds
digits_apart [] h = tt
digits_apart (d ∷ ds) h = let range = digit_from_value d h.0 in (λ e. omega (arith, range.0), digits_apart ds h.1)

pub number_apart : (most : ℕ) (text : List ℕ) (n : ℕ) → SpellsNumber most text n → NoSpace text
number_apart most text n s = digits_apart text s.numeral.1

digits_go_on : (ds text : List ℕ) → IsNumeral 10 ds → ¬ (IsSkipped (ds ++ text))
digits_go_on [] text h = absurd (omega (arith, h.0))
digits_go_on (d ∷ ds) text h = let range = digit_from_value d h.1.0 in λ e. omega (arith, range.0)

after_moment : (o : Option ℕ) (rest : Part) → ((value_or BadMoment 0 o >>= λ (m : ℕ). let r : Reading ℕ = Ok (m, rest) in r) >>= λ (x : ℕ × Part). behind_moment x.0 x.1) ≡ (value_or BadMoment 0 o >>= λ (now : ℕ). behind_moment now rest)
after_moment None rest = refl
after_moment (Some now) rest = refl

-- a line that begins with a word
worded : (line word behind : List ℕ) → IsFront line word behind → is_skipped line ≡ false
    → line_reading line ≡ (value_or BadMoment 0 (number_of most_short word) >>= λ (now : ℕ). behind_moment now (part behind (length word)))
worded line word behind s skipped =
    not_skipped line skipped
    ∙ after_moment (number_of most_short (before_space line)) (part (from_space line) (0 + length (before_space line)))
    ∙ ap (λ (w : List ℕ). value_or BadMoment 0 (number_of most_short w) >>= λ (now : ℕ). behind_moment now (part (from_space line) (0 + length w))) (ap before_space s.spelled ∙ before_front word behind s.apart s.end)
    ∙ ap (λ (t : List ℕ). value_or BadMoment 0 (number_of most_short word) >>= λ (now : ℕ). behind_moment now (part t (0 + length word))) (ap from_space s.spelled ∙ from_front word behind s.apart s.end)
    ∙ ap (λ (n : ℕ). value_or BadMoment 0 (number_of most_short word) >>= λ (now : ℕ). behind_moment now (part behind n)) (omega arith)

pub no_moment : (line word behind : List ℕ) → IsFront line word behind → ¬ (IsSkipped line) → number_of most_short word ≡ None → line_reading line ≡ bad_line 0 BadMoment
no_moment line word behind s other none =
    worded line word behind s (skip_other line other)
    ∙ ap (λ (o : Option ℕ). value_or BadMoment 0 o >>= λ (now : ℕ). behind_moment now (part behind (length word))) none

pub with_moment : (line moment text : List ℕ) (now : ℕ) → line ≡ moment ++ text → SpellsNumber most_short moment now → EndsWord text → line_reading line ≡ behind_moment now (part text (length moment))
with_moment line moment text now is s end =
    let front : IsFront line moment text = record { spelled = is; apart = number_apart most_short moment now s; end = end } in
    worded line moment text front (skip_other line λ e. digits_go_on moment text s.numeral (subst IsSkipped is e))
    ∙ ap (λ (o : Option ℕ). value_or BadMoment 0 o >>= λ (m : ℕ). behind_moment m (part text (length moment))) (number_complete most_short moment now s)

pub with_kind : (now place : ℕ) (text name behind : List ℕ) → IsNext text name behind
    → behind_moment now (part text place) ≡ whole now (kind_reading (part name (place + 1)) (part behind (place + 1 + length name)))
with_kind now place text name behind s = ap (λ (r : Reading Part). r >>= λ (kind : Part × Part). whole now (kind_reading kind.0 kind.1)) (next_reads UnknownKind text name behind place s)

-- a kind before its fields
pub named : (now place : ℕ) (text name : List ℕ) (words : List (List ℕ)) → text ≡ spaced (name ∷ words) → IsInner name
    → behind_moment now (part text place) ≡ whole now (kind_reading (part name (place + 1)) (part (spaced words) (place + 1 + length name)))
named now place text name words is plain =
    ap (λ t. behind_moment now (part t place)) is
    ∙ with_kind now place (spaced (name ∷ words)) name (spaced words) (next_spaced name words (no_space_from name plain))

pub begins_spaced : (text rest : List ℕ) → text ≡ 32 ∷ rest → EndsWord text
begins_spaced text rest is = subst EndsWord (sym is) refl

pub no_kind : (now place : ℕ) (text : List ℕ) → text ≡ [] → behind_moment now (part text place) ≡ bad_line place UnknownKind
no_kind now place text none = ap (λ t. behind_moment now (part t place)) none

-- the cases
pub record MomentAlone (line : List ℕ) : Type 0 where
  pub now : ℕ
  pub of_moment : SpellsNumber most_short line now

pub record Kinded (line : List ℕ) : Type 0 where
  pub moment : List ℕ
  pub text : List ℕ
  pub name : List ℕ
  pub behind : List ℕ
  pub now : ℕ
  pub spelled : line ≡ moment ++ text
  pub of_moment : SpellsNumber most_short moment now
  pub next : IsNext text name behind

pub record NoMoment (line : List ℕ) : Type 0 where
  pub word : List ℕ
  pub behind : List ℕ
  pub front : IsFront line word behind
  pub not_skipped : ¬ (IsSkipped line)
  pub none : number_of most_short word ≡ None

pub data Line (line : List ℕ) : Type 0 where
  Skipped : IsSkipped line → Line line
  Wordless : NoMoment line → Line line
  Alone : MomentAlone line → Line line
  Full : Kinded line → Line line

pub line_of : (line : List ℕ) → Line line
line_of line = go (is_skipped line) refl
  where
    clash : true ≡ false → ⊥
    clash e = cc

    kind : (now : ℕ) → number_of most_short (before_space line) ≡ Some now → Next (from_space line) → Line line
    kind now is (Nothing none) =
        let same : line ≡ before_space line = (front_of line).spelled ∙ ap (λ t. before_space line ++ t) none ∙ append-nil (before_space line) in
        Alone (record { now = now; of_moment = subst (λ t. SpellsNumber most_short t now) (sym same) (number_sound most_short (before_space line) now is) })
    kind now is (More name behind s) = Full (record {
      moment = before_space line;
      text = from_space line;
      name = name;
      behind = behind;
      now = now;
      spelled = (front_of line).spelled;
      of_moment = number_sound most_short (before_space line) now is;
      next = s;
    })

    moment : is_skipped line ≡ false → (o : Option ℕ) → number_of most_short (before_space line) ≡ o → Line line
    moment skipped None is =
        Wordless (record { word = before_space line; behind = from_space line; front = front_of line; not_skipped = λ e. clash (sym (skip_from line e) ∙ skipped); none = is })
    moment skipped (Some now) is = kind now is (next_of (from_space line) (word_ends line))

    go : (t : Bool) → is_skipped line ≡ t → Line line
    go true is = Skipped (skip_to line is)
    go false is = moment is (number_of most_short (before_space line)) refl
