use Rattle.origin_frame.proofs.Payloads.{listed_spelled, listed_refusal, listed_read, listed_refused, listed_valid}
use Rattle.origin_frame.proofs.laws.payloads_are_read.Goals as goal

pub returns-clause-read : goal.returns-clause-read
returns-clause-read c = λ stream flags payload listed h. listed_spelled stream flags payload listed h

pub returns-clause-refusal : goal.returns-clause-refusal
returns-clause-refusal c = λ stream flags payload at h. listed_refusal stream flags payload at h

pub returns-clause-spelled : goal.returns-clause-spelled
returns-clause-spelled c = λ stream flags payload listed h. listed_read stream flags payload listed h

pub returns-clause-refused : goal.returns-clause-refused
returns-clause-refused c = λ stream flags payload place reason h. listed_refused stream flags payload place reason h

pub returns-clause-valid : goal.returns-clause-valid
returns-clause-valid c = λ stream flags payload listed h. listed_valid stream flags payload listed h
