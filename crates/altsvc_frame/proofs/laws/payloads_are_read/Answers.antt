use Rattle.altsvc_frame.proofs.Frames.{frame_spelled, frame_refusal, frame_read, frame_refused, frame_valid}
use Rattle.altsvc_frame.proofs.laws.payloads_are_read.Goals as goal

pub returns-clause-read : goal.returns-clause-read
returns-clause-read c = λ stream payload frame h. frame_spelled stream payload frame h

pub returns-clause-refusal : goal.returns-clause-refusal
returns-clause-refusal c = λ stream payload at h. frame_refusal stream payload at h

pub returns-clause-spelled : goal.returns-clause-spelled
returns-clause-spelled c = λ stream payload frame h. frame_read stream payload frame h

pub returns-clause-refused : goal.returns-clause-refused
returns-clause-refused c = λ stream payload place reason h. frame_refused stream payload place reason h

pub returns-clause-valid : goal.returns-clause-valid
returns-clause-valid c = λ stream payload frame h. frame_valid stream payload frame h
