-- What a turn makes of a run of `show frames`, by the status.
use Rattle.std.proofs.Common.{◌≡◌, ℕ, ◌+◌, ◌≤◌, Bool, true, false, List, [], ◌++◌, length, take, Option, Ok, Err, refl, ap, sym, ◌∙◌, subst, arith, append-nil, inl, inr}
use Rattle.alt_base.specs.Devices.{Grew, Took, IsAtEnd, Grew-more, Took-more, Took-nil}
use Rattle.alt_base.specs.Faults.{Rose}
use Rattle.h2_framing.specs.Streams.{split_of}
use Rattle.altroute_show.specs.declared.frames_so_far.FramesSoFar.{FramesSoFar}
use Rattle.altroute_show.specs.declared.status.Status.{Status}
use Rattle.altroute_show.specs.declared.status.Status.TheVariants.{Done, Refused, Usage, ReadFault, WriteFault, NoMemory, TooLong}
use Rattle.altroute_show.specs.Causes.{SinkCause}
use Rattle.altroute_show.specs.Seen.{Seen, AnsweredEnd, NoFault, Moves}
use Rattle.altroute_show.specs.FrameOutcome.{FrameOutcome, frames_text, frame_outcome}
use Rattle.altroute_show.specs.FrameEnds.{FrameEnds}
use Rattle.altroute_show.specs.FrameSteps.{Stands, OctetsEnd, EndEnds, FramesRun, HaveRun}
use Rattle.altroute_show.proofs.Told.{grew_nothing, nothing_taken, front_of}
use Rattle.altroute_show.proofs.FrameOutcomes.{going}

no_lines : frames_text [] ≡ []
unfolding split_of
no_lines = refl

-- nothing was taken yet
pub begins_frames : (state : FramesSoFar) (first : Seen) → Stands state [] → HaveRun state first first
begins_frames state first stands =
    ([], record { stands = stands; moves = record { took = Took-nil first.left; grew = subst (Grew first.written first.written) (sym no_lines) (grew_nothing first.written) }; no_fault = record { source = refl; sink = refl } })

-- the text of before and what was written are a front of the whole text
part : (state : FramesSoFar) (first old new : Seen) (before octets more : List ℕ) (ended : Bool) (n : ℕ) → FramesRun state first old before → Took first.left new.left octets → (frame_outcome octets ended).text ≡ frames_text before ++ more → Grew old.written new.written (take n more) → Moves first new octets (take (length (frames_text before) + n) (frame_outcome octets ended).text)
part state first old new before octets more ended n runs took whole grew = record {
  took = took;
  grew = subst (Grew first.written new.written) (front_of (frames_text before) more (frame_outcome octets ended).text n whole) (Grew-more first.written old.written new.written (frames_text before) (take n more) runs.moves.grew grew);
}

whole : (state : FramesSoFar) (first old new : Seen) (before octets more text : List ℕ) → FramesRun state first old before → Took first.left new.left octets → text ≡ frames_text before ++ more → Grew old.written new.written more → Moves first new octets text
whole state first old new before octets more text runs took is grew = record {
  took = took;
  grew = subst (Grew first.written new.written) (sym is) (Grew-more first.written old.written new.written (frames_text before) more runs.moves.grew grew);
}

nothing_grew : (old new : Option (List ℕ)) (more : List ℕ) → new ≡ old → Grew old new (take 0 more)
nothing_grew old new more same = same ∙ grew_nothing old

kept_both : (state : FramesSoFar) (first old new : Seen) (before : List ℕ) → FramesRun state first old before → new.read_faults ≡ old.read_faults → new.write_faults ≡ old.write_faults → NoFault first new
kept_both state first old new before runs same kept = record { source = same ∙ runs.no_fault.source; sink = kept ∙ runs.no_fault.sink }

-- what the end of the input makes of a run
pub end_runs : (status : Status) (state : FramesSoFar) (first old new : Seen) (octets : List ℕ) → FramesRun state first old octets → EndEnds status old.written new.written octets → SinkCause status old.write_faults new.write_faults → Took old.left new.left [] → new.source_ended ≡ true → IsAtEnd old.left → new.read_faults ≡ old.read_faults → FrameEnds status first new
end_runs status state first old new octets runs ends cause took end at_end same = by_status status ends cause
  where
    ended : AnsweredEnd new
    ended = record { answered = end; at_end = subst IsAtEnd (took ∙ nothing_taken new.left) at_end }

    all_took : Took first.left new.left octets
    all_took = subst (Took first.left new.left) (append-nil octets) (Took-more first.left old.left new.left octets [] runs.moves.took took)

    by_status : (s : Status) → EndEnds s old.written new.written octets → SinkCause s old.write_faults new.write_faults → FrameEnds s first new
    by_status Done ends cause = (octets, record { ended = ended; no_stop = ends.0; moves = whole state first old new octets octets [] (frame_outcome octets true).text runs all_took (ends.1 ∙ sym (append-nil (frames_text octets))) (ends.2 ∙ grew_nothing old.written); no_fault = kept_both state first old new octets runs same cause })
    by_status Refused ends cause = (octets, inr (record { stop = ends.0; at_end = ended; moves = whole state first old new octets octets ends.1 (frame_outcome octets true).text runs all_took ends.2 ends.3; no_fault = kept_both state first old new octets runs same cause }))
    by_status Usage ends cause = ends
    by_status ReadFault ends cause = absurd ends
    by_status WriteFault ends cause = record {
      part = record { bytes = octets; ended = true; most = length (frames_text octets) + ends.1; at_end = ended; moves = part state first old new octets octets ends.0 true ends.1 runs all_took ends.2 ends.3 };
      rose = subst (λ n. Rose n new.write_faults) runs.no_fault.sink cause;
      source = same ∙ runs.no_fault.source;
    }
    by_status NoMemory ends cause = record {
      part = record { bytes = octets; ended = true; most = length (frames_text octets) + 0; at_end = ended; moves = part state first old new octets octets ends.0 true 0 runs all_took ends.1 (nothing_grew old.written new.written ends.0 ends.2) };
      no_fault = kept_both state first old new octets runs same cause;
    }
    by_status TooLong ends cause = absurd ends

-- what a piece makes of a run
pub piece_goes : (state next : FramesSoFar) (first old new : Seen) (before piece : List ℕ) → FramesRun state first old before → OctetsEnd (Ok tt) next old.written new.written before (before ++ piece) → Took old.left new.left piece → new.read_faults ≡ old.read_faults → new.write_faults ≡ old.write_faults → HaveRun next first new
piece_goes state next first old new before piece runs ends took same kept = (
  before ++ piece,
  record {
    stands = ends.0;
    moves = whole state first old new before (before ++ piece) ends.1 (frames_text (before ++ piece)) runs (Took-more first.left old.left new.left before piece runs.moves.took took) ends.2 ends.3;
    no_fault = kept_both state first old new before runs same kept;
  },
)

pub piece_stops : (status : Status) (state next : FramesSoFar) (first old new : Seen) (before piece : List ℕ) → FramesRun state first old before → OctetsEnd (Err status) next old.written new.written before (before ++ piece) → SinkCause status old.write_faults new.write_faults → Took old.left new.left piece → new.read_faults ≡ old.read_faults → FrameEnds status first new
piece_stops status state next first old new before piece runs ends cause took same = by_status status ends cause
  where
    all : List ℕ
    all = before ++ piece

    all_took : Took first.left new.left all
    all_took = Took-more first.left old.left new.left before piece runs.moves.took took

    by_status : (s : Status) → OctetsEnd (Err s) next old.written new.written before all → SinkCause s old.write_faults new.write_faults → FrameEnds s first new
    by_status Done ends cause = absurd ends
    by_status Refused ends cause = (all, inl (record { stop = ends.0; at_end = tt; moves = whole state first old new before all ends.1 (frame_outcome all false).text runs all_took ends.2 ends.3; no_fault = kept_both state first old new before runs same cause }))
    by_status Usage ends cause = ends
    by_status ReadFault ends cause = absurd ends
    by_status WriteFault ends cause = record {
      part = record { bytes = all; ended = false; most = length (frames_text before) + ends.1; at_end = tt; moves = part state first old new before all ends.0 false ends.1 runs all_took ends.2 ends.3 };
      rose = subst (λ n. Rose n new.write_faults) runs.no_fault.sink cause;
      source = same ∙ runs.no_fault.source;
    }
    by_status NoMemory ends cause = record {
      part = record { bytes = all; ended = false; most = length (frames_text before) + 0; at_end = tt; moves = part state first old new before all ends.0 false 0 runs all_took ends.1 (nothing_grew old.written new.written ends.0 ends.2) };
      no_fault = kept_both state first old new before runs same cause;
    }
    by_status TooLong ends cause = (all, record { stop = ends.0; at_end = tt; moves = whole state first old new before all ends.1 (frame_outcome all false).text runs all_took ends.2 ends.3; no_fault = kept_both state first old new before runs same cause })

-- a read that failed
pub read_fails : (state : FramesSoFar) (first old new : Seen) (octets : List ℕ) → FramesRun state first old octets → state.taken ≤ 67108864 → new.left ≡ old.left → new.written ≡ old.written → new.write_faults ≡ old.write_faults → Rose old.read_faults new.read_faults → FrameEnds ReadFault first new
read_fails state first old new octets runs bounded left written kept rose =
    let e = going octets (omega (arith, runs.stands.taken, bounded)) runs.stands.reader.going in (
      octets,
      record {
        no_stop = ap (λ (o : FrameOutcome). o.stop) e;
        moves = record { took = subst (λ l. Took first.left l octets) (sym left) runs.moves.took; grew = subst (Grew first.written new.written) (sym (ap (λ (o : FrameOutcome). o.text) e)) (written ∙ runs.moves.grew) };
        rose = subst (λ n. Rose n new.read_faults) runs.no_fault.source rose;
        sink = kept ∙ runs.no_fault.sink;
      },
    )
