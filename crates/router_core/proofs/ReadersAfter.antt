-- What the readers have read, after a step.
use Rattle.std.proofs.Common.{◌≡◌, ℕ, Bool, true, false, cond, not, ◌&&◌, ◌||◌, nat_eq, List, [], ◌∷◌, ◌++◌, find, Option, Some, None, is_some, refl, ap, sym, ◌∙◌, subst, true≢false}
use Rattle.std.specs.List.{list_any, flat_map}
use Rattle.alt_base.proofs.Numbers.{true_eq, eq_self}
use Rattle.alt_base.proofs.Booleans.{contradicts}
use Rattle.coalescing.specs.declared.cert_name.CertName.{CertName}
use Rattle.origin_values.specs.declared.proto.Proto.{Proto}
use Rattle.origin_values.specs.declared.address.Addr.{Addr}
use Rattle.h2_framing.specs.declared.frame.Frame.{Frame}
use Rattle.h2_framing.specs.Reading.{Keeps}
use Rattle.h2_framing.specs.Streams.{rest_of, too_large_of}
use Rattle.frame_readers.specs.declared.readers.ReaderOf.{ReaderOf}
use Rattle.frame_readers.specs.Readers.{Reads, reader_among, other_readers, held_of, skipped_of}
use Rattle.frame_readers.proofs.Tables.{reads_empty, none_left, others_left}
use Rattle.route_events.specs.declared.connection.Connection.{Connection}
use Rattle.route_events.specs.declared.fact.Fact.{Fact}
use Rattle.route_events.specs.declared.fact.Fact.TheVariants as fact
use Rattle.route_events.specs.Journal.{Happened, Journal}
use Rattle.route_events.specs.Attempts.{has_ended}
use Rattle.route_events.specs.Connections.{connections, closes, is_open_number}
use Rattle.route_events.specs.Frames.{octets_on, delivery, cut_by}
use Rattle.route_events.specs.Step.{IsRun, Begun, Stepped, refusal, parts_behind, step}
use Rattle.route_events.proofs.Deliveries.{brought}
use Rattle.route_events.proofs.PartsKeep.{octets_step, octets_input}
use Rattle.route_events.proofs.GoingOn.{earlier}
use Rattle.route_events.proofs.Runs.{each}
use Rattle.route_events.proofs.Sound.{opened_pending, IsStarted, started_of, used_of, input_open}
use Rattle.router_core.specs.Holds.{AreRead}
use Rattle.router_core.specs.StepBecomes.{IsRead, IsBrought}
use Rattle.router_core.proofs.OpenAfter.{was_made, open_where, open_same, connections_step, closes_step, ended_step}

-- nothing was read before the first step
pub none_read : AreRead [] []
none_read = record { octets = λ n h. absurd (true≢false (sym h)); no_other = λ n h. refl }

-- octets come on open connections alone

abbrev pub NoneCame : Journal → Type 0
NoneCame j = (n : ℕ) → has_ended j n ≡ false → octets_on j n ≡ []

none_step : (j : Journal) (now : ℕ) (f : Fact) → IsRun j → refusal j now f ≡ None → NoneCame j → NoneCame (step j now f)
none_step j now (fact.Input c bytes) is free was n fresh = octets_step j now (fact.Input c bytes) n ∙ by_number (nat_eq c n) refl
  where
    unused : has_ended j n ≡ false
    unused = earlier _ _ (ended_step j now (fact.Input c bytes) n) fresh

    by_number : (b : Bool) → nat_eq c n ≡ b → cond b (octets_on j n ++ bytes) (octets_on j n) ≡ []
    by_number true same =
        contradicts (has_ended j n) (subst (λ m. has_ended j m ≡ true) (true_eq c n same) (used_of j c (input_open j now c bytes free) (each is).sound)) unused
    by_number false same = was n unused
none_step j now f is free was n fresh = octets_step j now f n ∙ was n (earlier _ _ (ended_step j now f n) fresh)

pub none_came : {j : Journal} → IsRun j → NoneCame j
none_came Begun n fresh = refl
none_came (Stepped j now f was free) n fresh = none_step j now f was free (none_came was) n fresh

-- readers that are the same read the same

reads_same : (rs rs' : List ReaderOf) (n : ℕ) (x y : List ℕ) → reader_among rs' n ≡ reader_among rs n → y ≡ x → Reads rs n x → Reads rs' n y
reads_same rs rs' n x y same octets reads = record {
  keeps = subst (λ z. Keeps (held_of (reader_among rs' n)) (skipped_of (reader_among rs' n)) (rest_of z)) (sym octets) (subst (λ w. Keeps (held_of w) (skipped_of w) (rest_of x)) (sym same) reads.keeps);
  going = ap too_large_of octets ∙ reads.going;
}

read_same : (rs : List ReaderOf) (j k : Journal) → ((n : ℕ) → octets_on k n ≡ octets_on j n) → ((n : ℕ) → is_open_number k n ≡ is_open_number j n) → AreRead j rs → AreRead k rs
read_same rs j k octets open_now are = record {
  octets = λ n h. reads_same rs rs n (octets_on j n) (octets_on k n) refl (octets n) (are.octets n (sym (open_now n) ∙ h));
  no_other = λ n h. are.no_other n (sym (open_now n) ∙ h);
}

-- a fact that opens and ends no connection
still_read : (rs rs' : List ReaderOf) (j : Journal) (now : ℕ) (f : Fact) → rs' ≡ rs → parts_behind j now f ≡ [] → connections (Happened now f true ∷ j) ≡ connections j → ((n : ℕ) → closes n (Happened now f true) ≡ false) → ((n : ℕ) → octets_on (Happened now f true ∷ j) n ≡ octets_on j n) → AreRead j rs → AreRead (step j now f) rs'
still_read rs rs' j now f same parts made closed octets are =
    subst (AreRead (step j now f)) (sym same)
    (read_same rs j (step j now f)
    (λ n. octets_step j now f n ∙ octets n)
    (λ n. open_same j (step j now f) n (connections_step j now f 0 [] None parts ∙ made) (closes_step j now f 0 [] None n parts ∙ ap (λ b. b || list_any (closes n) j) (closed n)))
    are)

-- a connection that opens: nothing came on it, and it has no reader

made_more : (cs : List Connection) (c : Connection) (n : ℕ) → is_some (find (λ (x : Connection). nat_eq x.number n) (cs ++ c ∷ [])) ≡ (is_some (find (λ (x : Connection). nat_eq x.number n) cs) || nat_eq c.number n)
made_more [] c n = by_test (nat_eq c.number n)
  where
    by_test : (b : Bool) → is_some (cond {A = Option Connection} b (Some c) None) ≡ b
    by_test true = refl
    by_test false = refl
made_more (d ∷ cs) c n = by_test (nat_eq d.number n) (made_more cs c n)
  where
    by_test : (b : Bool) → is_some (find (λ (x : Connection). nat_eq x.number n) (cs ++ c ∷ [])) ≡ (is_some (find (λ (x : Connection). nat_eq x.number n) cs) || nat_eq c.number n)
        → is_some (cond {A = Option Connection} b (Some d) (find (λ (x : Connection). nat_eq x.number n) (cs ++ c ∷ []))) ≡ (is_some (cond {A = Option Connection} b (Some d) (find (λ (x : Connection). nat_eq x.number n) cs)) || nat_eq c.number n)
    by_test true rest = refl
    by_test false rest = rest

read_opened : (rs : List ReaderOf) (j : Journal) (now m : ℕ) (p : Proto) (d : Addr) (port : ℕ) (names : List CertName) → IsRun j → refusal j now (fact.Opened m p d port names) ≡ None → AreRead j rs → AreRead (step j now (fact.Opened m p d port names)) rs
read_opened rs j now m p d port names is free are = record {
  octets = λ n h. by_number n (nat_eq m n) refl h;
  no_other = λ n h. are.no_other n (was_not n h);
}
  where
    f : Fact
    f = fact.Opened m p d port names

    k : Journal
    k = step j now f

    started : IsStarted j m
    started = started_of j m (opened_pending j now m p d port names free)

    c : Connection
    c = record { number = m; origin = started.attempt.origin; route = started.attempt.route; proto = p; addr = d; port = port; names = names }

    made : connections k ≡ connections j ++ c ∷ []
    made = connections_step j now f 0 [] None refl ∙ opened
      where
        opened : connections (Happened now f true ∷ j) ≡ connections j ++ c ∷ []
        opened = rw started.found refl

    open_now : (n : ℕ) → is_open_number k n ≡ ((was_made j n || nat_eq m n) && not (list_any (closes n) j))
    open_now n = open_where k n ∙ (λ i. is_some (find (λ (x : Connection). nat_eq x.number n) (made i)) && not (closes_step j now f 0 [] None n refl i)) ∙ ap (λ b. b && not (list_any (closes n) j)) (made_more (connections j) c n)

    never_opened : is_open_number j m ≡ false
    never_opened = earlier _ _ (λ h. used_of j m h (each is).sound) started.going

    was_not : (n : ℕ) → is_open_number k n ≡ false → is_open_number j n ≡ false
    was_not n h = open_where j n ∙ by_test (was_made j n) (nat_eq m n) (list_any (closes n) j) (sym (open_now n) ∙ h)
      where
        by_test : (a b e : Bool) → ((a || b) && not e) ≡ false → (a && not e) ≡ false
        by_test true b e h = h
        by_test false b e h = refl

    by_number : (n : ℕ) (b : Bool) → nat_eq m n ≡ b → is_open_number k n ≡ true → Reads rs n (octets_on k n)
    by_number n true same h =
        subst (λ i. Reads rs i (octets_on k i)) (true_eq m n same)
        (reads_same rs rs m [] (octets_on k m) refl (octets_step j now f m ∙ none_came is m started.going) (reads_empty rs m (are.no_other m never_opened)))
    by_number n false same h =
        reads_same rs rs n (octets_on j n) (octets_on k n) refl (octets_step j now f n)
        (are.octets n (open_where j n ∙ sym (ap (λ b. (b && not (list_any (closes n) j))) (ap (λ b. was_made j n || b) same ∙ none_more (was_made j n))) ∙ sym (open_now n) ∙ h))
      where
        none_more : (a : Bool) → (a || false) ≡ a
        none_more true = refl
        none_more false = refl

-- a connection that closes is read no further

not_both : (a e : Bool) → (a && not e) ≡ true → (a ≡ true) × (e ≡ false)
not_both true false h = (refl, refl)
not_both true true h = absurd (true≢false (sym h))
not_both false e h = absurd (true≢false (sym h))

read_closed : (rs : List ReaderOf) (j : Journal) (now c : ℕ) → AreRead j rs → AreRead (step j now (fact.Closed c)) (other_readers rs c)
read_closed rs j now c are = record {
  octets = λ n h. by_open n (nat_eq c n) refl h;
  no_other = λ n h. by_closed n (nat_eq c n) refl h;
}
  where
    k : Journal
    k = step j now (fact.Closed c)

    open_now : (n : ℕ) → is_open_number k n ≡ (was_made j n && not (nat_eq c n || list_any (closes n) j))
    open_now n = open_where k n ∙ (λ i. is_some (find (λ (x : Connection). nat_eq x.number n) (connections_step j now (fact.Closed c) 0 [] None refl i)) && not (closes_step j now (fact.Closed c) 0 [] None n refl i))

    by_open : (n : ℕ) (b : Bool) → nat_eq c n ≡ b → is_open_number k n ≡ true → Reads (other_readers rs c) n (octets_on k n)
    by_open n true same h = contradicts (is_open_number k n) h (open_now n ∙ ap (λ b. was_made j n && not (b || list_any (closes n) j)) same ∙ nothing (was_made j n))
      where
        nothing : (a : Bool) → (a && false) ≡ false
        nothing true = refl
        nothing false = refl
    by_open n false same h =
        reads_same rs (other_readers rs c) n (octets_on j n) (octets_on k n) (others_left rs c n same) (octets_step j now (fact.Closed c) n)
        (are.octets n (open_where j n ∙ ap (λ b. was_made j n && not (b || list_any (closes n) j)) (sym same) ∙ sym (open_now n) ∙ h))

    by_closed : (n : ℕ) (b : Bool) → nat_eq c n ≡ b → is_open_number k n ≡ false → reader_among (other_readers rs c) n ≡ None
    by_closed n true same h = subst (λ i. reader_among (other_readers rs c) i ≡ None) (true_eq c n same) (none_left rs c)
    by_closed n false same h = others_left rs c n same ∙ are.no_other n (open_where j n ∙ ap (λ b. was_made j n && not (b || list_any (closes n) j)) (sym same) ∙ sym (open_now n) ∙ h)

-- octets on a connection

pub input_parts : (rs rs' : List ReaderOf) (j : Journal) (now c : ℕ) (bytes : List ℕ) (frames : List Frame) (w : Option ℕ) → refusal j now (fact.Input c bytes) ≡ None → AreRead j rs → IsRead rs rs' c bytes frames w →
    parts_behind j now (fact.Input c bytes) ≡ flat_map (delivery now c) frames ++ cut_by now c w
input_parts rs rs' j now c bytes frames w free are is = brought now c (octets_on j c) bytes frames w (is.brings (octets_on j c) (are.octets c (input_open j now c bytes free)))

read_input : (rs rs' : List ReaderOf) (j : Journal) (now c : ℕ) (bytes : List ℕ) (frames : List Frame) (w : Option ℕ) → refusal j now (fact.Input c bytes) ≡ None → AreRead j rs → IsRead rs rs' c bytes frames w → AreRead (step j now (fact.Input c bytes)) rs'
read_input rs rs' j now c bytes frames w free are is = record {
  octets = λ n h. by_open n (nat_eq c n) refl h;
  no_other = λ n h. by_closed n (nat_eq c n) refl h;
}
  where
    f : Fact
    f = fact.Input c bytes

    k : Journal
    k = step j now f

    parts : parts_behind j now f ≡ flat_map (delivery now c) frames ++ cut_by now c w
    parts = input_parts rs rs' j now c bytes frames w free are is

    open_now : (n : ℕ) → is_open_number k n ≡ (was_made j n && not ((is_some w && nat_eq c n) || list_any (closes n) j))
    open_now n = open_where k n ∙ (λ i. is_some (find (λ (x : Connection). nat_eq x.number n) (connections_step j now f c frames w parts i)) && not (closes_step j now f c frames w n parts i))

    -- of another connection nothing changes
    other_now : (n : ℕ) → nat_eq c n ≡ false → is_open_number k n ≡ is_open_number j n
    other_now n apart = open_now n ∙ ap (λ b. was_made j n && not (b || list_any (closes n) j)) (ap (λ b. is_some w && b) apart ∙ nothing (is_some w)) ∙ sym (open_where j n)
      where
        nothing : (a : Bool) → (a && false) ≡ false
        nothing true = refl
        nothing false = refl

    own_now : is_open_number k c ≡ not (is_some w)
    own_now = open_now c ∙ ap (λ b. was_made j c && not ((is_some w && b) || list_any (closes c) j)) (eq_self c) ∙ by_parts (not_both (was_made j c) (list_any (closes c) j) (sym (open_where j c) ∙ input_open j now c bytes free))
      where
        by_parts : (was_made j c ≡ true) × (list_any (closes c) j ≡ false) → (was_made j c && not ((is_some w && true) || list_any (closes c) j)) ≡ not (is_some w)
        by_parts h = (λ i. h.0 i && not ((is_some w && true) || h.1 i)) ∙ plain (is_some w)
          where
            plain : (a : Bool) → (true && not ((a && true) || false)) ≡ not a
            plain true = refl
            plain false = refl

    goes_on : is_open_number k c ≡ true → w ≡ None
    goes_on h = by_cut w (sym own_now ∙ h)
      where
        by_cut : (v : Option ℕ) → not (is_some v) ≡ true → v ≡ None
        by_cut None e = refl
        by_cut (Some count) e = absurd (true≢false (sym e))

    by_open : (n : ℕ) (b : Bool) → nat_eq c n ≡ b → is_open_number k n ≡ true → Reads rs' n (octets_on k n)
    by_open n true same h =
        let number : c ≡ n = true_eq c n same in
        subst (λ i. Reads rs' i (octets_on k i)) number
        (reads_same rs' rs' c (octets_on j c ++ bytes) (octets_on k c) refl (octets_step j now f c ∙ octets_input j now c bytes)
        (is.reads (octets_on j c) (are.octets c (input_open j now c bytes free)) (goes_on (subst (λ i. is_open_number k i ≡ true) (sym number) h))))
    by_open n false apart h =
        reads_same rs rs' n (octets_on j n) (octets_on k n) (is.others n apart) (octets_step j now f n ∙ ap (λ b. cond b (octets_on j n ++ bytes) (octets_on j n)) apart)
        (are.octets n (sym (other_now n apart) ∙ h))

    by_closed : (n : ℕ) (b : Bool) → nat_eq c n ≡ b → is_open_number k n ≡ false → reader_among rs' n ≡ None
    by_closed n true same h =
        let number : c ≡ n = true_eq c n same in
        subst (λ i. reader_among rs' i ≡ None) number (by_cut w refl (sym own_now ∙ subst (λ i. is_open_number k i ≡ false) (sym number) h))
      where
        by_cut : (v : Option ℕ) → w ≡ v → not (is_some w) ≡ false → reader_among rs' c ≡ None
        by_cut None e h = absurd (true≢false (ap (λ v. not (is_some v)) (sym e) ∙ h))
        by_cut (Some count) e h = is.ended count e
    by_closed n false apart h = is.others n apart ∙ are.no_other n (sym (other_now n apart) ∙ h)

-- a step

pub readers_after : (rs rs' : List ReaderOf) (j : Journal) (now : ℕ) (f : Fact) (conn : ℕ) (frames : List Frame) (w : Option ℕ) → IsRun j → refusal j now f ≡ None → AreRead j rs → IsBrought rs rs' f conn frames w → AreRead (step j now f) rs'
readers_after rs rs' j now (fact.Request n o) conn frames w is free are brings = still_read rs rs' j now (fact.Request n o) brings.2 refl refl (λ n. refl) (λ n. refl) are
readers_after rs rs' j now (fact.Opened m p d port names) conn frames w is free are brings = subst (AreRead (step j now (fact.Opened m p d port names))) (sym brings.2) (read_opened rs j now m p d port names is free are)
readers_after rs rs' j now (fact.Failed m) conn frames w is free are brings = still_read rs rs' j now (fact.Failed m) brings.2 refl refl (λ n. refl) (λ n. refl) are
readers_after rs rs' j now (fact.Closed c) conn frames w is free are brings = subst (AreRead (step j now (fact.Closed c))) (sym brings.2) (read_closed rs j now c are)
readers_after rs rs' j now (fact.Response q status age altsvc) conn frames w is free are brings = still_read rs rs' j now (fact.Response q status age altsvc) brings.2 refl refl (λ n. refl) (λ n. refl) are
readers_after rs rs' j now (fact.Input c bytes) conn frames w is free are brings = read_input rs rs' j now c bytes frames w free are brings.1
readers_after rs rs' j now (fact.Delivered c head payload) conn frames w is free are brings = still_read rs rs' j now (fact.Delivered c head payload) brings.2 refl refl (λ n. refl) (λ n. refl) are
readers_after rs rs' j now (fact.Answer name ttl body) conn frames w is free are brings = still_read rs rs' j now (fact.Answer name ttl body) brings.2 refl refl (λ n. refl) (λ n. refl) are
readers_after rs rs' j now fact.Network conn frames w is free are brings = still_read rs rs' j now fact.Network brings.2 refl refl (λ n. refl) (λ n. refl) are
readers_after rs rs' j now fact.Tick conn frames w is free are brings = still_read rs rs' j now fact.Tick brings.2 refl refl (λ n. refl) (λ n. refl) are
readers_after rs rs' j now (fact.Who o) conn frames w is free are brings = still_read rs rs' j now (fact.Who o) brings.2 refl refl (λ n. refl) (λ n. refl) are
readers_after rs rs' j now fact.Stats conn frames w is free are brings = still_read rs rs' j now fact.Stats brings.2 refl refl (λ n. refl) (λ n. refl) are

-- the parts behind the fact are those that the readers brought

none_are : (now conn : ℕ) (frames : List Frame) (w : Option ℕ) → frames ≡ [] → w ≡ None → [] ≡ flat_map (delivery now conn) frames ++ cut_by now conn w
none_are now conn frames w none going = λ i. flat_map (delivery now conn) (sym none i) ++ cut_by now conn (sym going i)

pub parts_are : (rs rs' : List ReaderOf) (j : Journal) (now : ℕ) (f : Fact) (conn : ℕ) (frames : List Frame) (w : Option ℕ) → refusal j now f ≡ None → AreRead j rs → IsBrought rs rs' f conn frames w → parts_behind j now f ≡ flat_map (delivery now conn) frames ++ cut_by now conn w
parts_are rs rs' j now (fact.Input c bytes) conn frames w free are brings =
    input_parts rs rs' j now c bytes frames w free are brings.1 ∙ (λ i. flat_map (delivery now (sym brings.0 i)) frames ++ cut_by now (sym brings.0 i) w)
parts_are rs rs' j now (fact.Request n o) conn frames w free are brings = none_are now conn frames w brings.0 brings.1
parts_are rs rs' j now (fact.Opened m p d port names) conn frames w free are brings = none_are now conn frames w brings.0 brings.1
parts_are rs rs' j now (fact.Failed m) conn frames w free are brings = none_are now conn frames w brings.0 brings.1
parts_are rs rs' j now (fact.Closed c) conn frames w free are brings = none_are now conn frames w brings.0 brings.1
parts_are rs rs' j now (fact.Response q status age altsvc) conn frames w free are brings = none_are now conn frames w brings.0 brings.1
parts_are rs rs' j now (fact.Delivered c head payload) conn frames w free are brings = none_are now conn frames w brings.0 brings.1
parts_are rs rs' j now (fact.Answer name ttl body) conn frames w free are brings = none_are now conn frames w brings.0 brings.1
parts_are rs rs' j now fact.Network conn frames w free are brings = none_are now conn frames w brings.0 brings.1
parts_are rs rs' j now fact.Tick conn frames w free are brings = none_are now conn frames w brings.0 brings.1
parts_are rs rs' j now (fact.Who o) conn frames w free are brings = none_are now conn frames w brings.0 brings.1
parts_are rs rs' j now fact.Stats conn frames w free are brings = none_are now conn frames w brings.0 brings.1
