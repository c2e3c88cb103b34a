-- What a turn makes of a run, by the status.
use Rattle.std.proofs.Common.{◌≡◌, ℕ, ◌+◌, ◌≤◌, true, false, List, [], ◌++◌, length, take, Ok, Err, refl, ap, sym, ◌∙◌, subst, arith, append-nil, inl, inr}
use Rattle.alt_base.specs.Devices.{Grew, Took, IsAtEnd, Grew-more, Took-more, Took-nil}
use Rattle.alt_base.specs.Faults.{Rose}
use Rattle.both_ends.specs.Histories.{History}
use Rattle.altroute_program.specs.declared.state.Replay.{Replay}
use Rattle.altroute_show.specs.declared.status.Status.{Status}
use Rattle.altroute_show.specs.declared.status.Status.TheVariants.{Done, Refused, Usage, ReadFault, WriteFault, NoMemory, TooLong}
use Rattle.altroute_program.specs.Outcome.{outcome, text_of, stop_of}
use Rattle.altroute_show.specs.Causes.{SinkCause}
use Rattle.altroute_show.specs.Seen.{Seen, AnsweredEnd, NoFault}
use Rattle.altroute_program.specs.Reached.{Reached, BytesEnd, FinishEnds, Runs, HasRun}
use Rattle.altroute_program.specs.Ends.{ReplayEnds}
use Rattle.altroute_show.proofs.Told.{grew_nothing, nothing_taken, front_of}
use Rattle.altroute_program.proofs.Outcomes.{going_is}

-- nothing was taken yet
pub begins : (r : Replay) (first : Seen) → Reached r [] [] [] → HasRun r first first
begins r first reached = ([], [], [], record { reached = reached; moves = record { took = Took-nil first.left; grew = grew_nothing first.written }; no_fault = record { source = refl; sink = refl } })

-- what the end of the input makes of a run
pub finish_ends : (status : Status) (replay : Replay) (first old new : Seen) (bytes text : List ℕ) (j : History) → Runs replay first old bytes text j → FinishEnds status old.written new.written bytes text → SinkCause status old.write_faults new.write_faults → Took old.left new.left [] → new.source_ended ≡ true → IsAtEnd old.left → new.read_faults ≡ old.read_faults → ReplayEnds status first new
finish_ends status replay first old new bytes text j runs ends cause took end at_end same = by_status status ends cause
  where
    ended : AnsweredEnd new
    ended = record { answered = end; at_end = subst IsAtEnd (took ∙ nothing_taken new.left) at_end }

    all_took : Took first.left new.left bytes
    all_took = subst (Took first.left new.left) (append-nil bytes) (Took-more first.left old.left new.left bytes [] runs.moves.took took)

    grew_more : (more : List ℕ) → Grew old.written new.written more → text_of (outcome bytes true) ≡ text ++ more → Grew first.written new.written (text_of (outcome bytes true))
    grew_more more grew whole = subst (Grew first.written new.written) (sym whole) (Grew-more first.written old.written new.written text more runs.moves.grew grew)

    no_fault : new.write_faults ≡ old.write_faults → NoFault first new
    no_fault kept = record { source = same ∙ runs.no_fault.source; sink = kept ∙ runs.no_fault.sink }

    by_status : (s : Status) → FinishEnds s old.written new.written bytes text → SinkCause s old.write_faults new.write_faults → ReplayEnds s first new
    by_status Done ends cause = (bytes, record { ended = ended; no_stop = ends.1; moves = record { took = all_took; grew = grew_more ends.0 ends.3 ends.2 }; no_fault = no_fault cause })
    by_status Refused ends cause = (bytes, true, record { stop = ends.1; at_end = ended; moves = record { took = all_took; grew = grew_more ends.0 ends.3 ends.2 }; no_fault = no_fault cause })
    by_status Usage ends cause = ends
    by_status ReadFault ends cause = absurd ends
    by_status WriteFault ends cause = record {
      part = record {
        bytes = bytes;
        ended = true;
        most = length text + ends.1;
        at_end = ended;
        moves = record {
          took = all_took;
          grew = subst (Grew first.written new.written) (front_of text ends.0 (text_of (outcome bytes true)) ends.1 ends.2) (Grew-more first.written old.written new.written text (take ends.1 ends.0) runs.moves.grew ends.3);
        };
      };
      rose = subst (λ n. Rose n new.write_faults) runs.no_fault.sink cause;
      source = same ∙ runs.no_fault.source;
    }
    by_status NoMemory ends cause = record {
      part = record {
        bytes = bytes;
        ended = true;
        most = length text + 0;
        at_end = ended;
        moves = record {
          took = all_took;
          grew = subst (Grew first.written new.written) (sym (append-nil text) ∙ front_of text ends.0 (text_of (outcome bytes true)) 0 ends.1) (ends.2 ∙ runs.moves.grew);
        };
      };
      no_fault = no_fault cause;
    }
    by_status TooLong ends cause = absurd ends

-- what a piece makes of a run
pub piece_runs : (replay next : Replay) (first old new : Seen) (bytes piece text : List ℕ) (j : History) → Runs replay first old bytes text j → BytesEnd (Ok tt) next old.written new.written (bytes ++ piece) text → Took old.left new.left piece → new.read_faults ≡ old.read_faults → new.write_faults ≡ old.write_faults → HasRun next first new
piece_runs replay next first old new bytes piece text j runs ends took same kept = (
  bytes ++ piece,
  text ++ ends.0,
  ends.1,
  record {
    reached = ends.2;
    moves = record { took = Took-more first.left old.left new.left bytes piece runs.moves.took took; grew = Grew-more first.written old.written new.written text ends.0 runs.moves.grew ends.3 };
    no_fault = record { source = same ∙ runs.no_fault.source; sink = kept ∙ runs.no_fault.sink };
  },
)

pub piece_ends : (status : Status) (replay next : Replay) (first old new : Seen) (bytes piece text : List ℕ) (j : History) → Runs replay first old bytes text j → BytesEnd (Err status) next old.written new.written (bytes ++ piece) text → SinkCause status old.write_faults new.write_faults → Took old.left new.left piece → new.read_faults ≡ old.read_faults → ReplayEnds status first new
piece_ends status replay next first old new bytes piece text j runs ends cause took same = by_status status ends cause
  where
    all : List ℕ
    all = bytes ++ piece

    all_took : Took first.left new.left all
    all_took = Took-more first.left old.left new.left bytes piece runs.moves.took took

    grew_more : (more : List ℕ) → Grew old.written new.written more → text_of (outcome all false) ≡ text ++ more → Grew first.written new.written (text_of (outcome all false))
    grew_more more grew whole = subst (Grew first.written new.written) (sym whole) (Grew-more first.written old.written new.written text more runs.moves.grew grew)

    grew_part : (more : List ℕ) (n : ℕ) → Grew old.written new.written (take n more) → text_of (outcome all false) ≡ text ++ more → Grew first.written new.written (take (length text + n) (text_of (outcome all false)))
    grew_part more n grew whole = subst (Grew first.written new.written) (front_of text more (text_of (outcome all false)) n whole) (Grew-more first.written old.written new.written text (take n more) runs.moves.grew grew)

    no_fault : new.write_faults ≡ old.write_faults → NoFault first new
    no_fault kept = record { source = same ∙ runs.no_fault.source; sink = kept ∙ runs.no_fault.sink }

    by_status : (s : Status) → BytesEnd (Err s) next old.written new.written all text → SinkCause s old.write_faults new.write_faults → ReplayEnds s first new
    by_status Done ends cause = absurd ends
    by_status Refused ends cause = (all, false, record { stop = ap stop_of ends.1; at_end = tt; moves = record { took = all_took; grew = grew_more ends.0 ends.2 (ap text_of ends.1) }; no_fault = no_fault cause })
    by_status Usage ends cause = ends
    by_status ReadFault ends cause = absurd ends
    by_status WriteFault ends cause = record {
      part = record { bytes = all; ended = false; most = length text + ends.1; at_end = tt; moves = record { took = all_took; grew = grew_part ends.0 ends.1 ends.3 ends.2 } };
      rose = subst (λ n. Rose n new.write_faults) runs.no_fault.sink cause;
      source = same ∙ runs.no_fault.source;
    }
    by_status NoMemory ends cause = record {
      part = record { bytes = all; ended = false; most = length text + ends.1; at_end = tt; moves = record { took = all_took; grew = grew_part ends.0 ends.1 ends.3 ends.2 } };
      no_fault = no_fault cause;
    }
    by_status TooLong ends cause = (
      all,
      elim ends.1 [
        | inl e ↦ inl (record { stop = ap stop_of e; at_end = tt; moves = record { took = all_took; grew = grew_more ends.0 ends.2 (ap text_of e) }; no_fault = no_fault cause })
        | inr e ↦ inr (record { stop = ap stop_of e; at_end = tt; moves = record { took = all_took; grew = grew_more ends.0 ends.2 (ap text_of e) }; no_fault = no_fault cause })
      ],
    )

-- a read that failed
pub read_fault : (replay : Replay) (first old new : Seen) (bytes text : List ℕ) (j : History) → Runs replay first old bytes text j → replay.taken ≤ 67108864 → new.left ≡ old.left → new.written ≡ old.written → new.write_faults ≡ old.write_faults → Rose old.read_faults new.read_faults → ReplayEnds ReadFault first new
read_fault replay first old new bytes text j runs within left written kept rose =
    let e = going_is replay bytes text j runs.reached (omega (arith, runs.reached.taken, within)) in (
      bytes,
      record {
        no_stop = ap stop_of e;
        moves = record { took = subst (λ l. Took first.left l bytes) (sym left) runs.moves.took; grew = subst (Grew first.written new.written) (sym (ap text_of e)) (written ∙ runs.moves.grew) };
        rose = subst (λ n. Rose n new.read_faults) runs.no_fault.source rose;
        sink = kept ∙ runs.no_fault.sink;
      },
    )
