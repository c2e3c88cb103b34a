-- The octets that came on a connection, and the frames that they end (RFC 9113 4.1).
use Rattle.std.specs.Prelude.{ℕ, false, nat_eq, List, [], ◌∷◌, ◌++◌, length, drop, Option, Some, None, if◌then◌else◌}
use Rattle.std.specs.List.{flat_map}
use Rattle.h2_framing.specs.declared.frame.Frame.{Frame}
use Rattle.h2_framing.specs.declared.frame.Frame.TheVariants.{Kept, Passed}
use Rattle.h2_framing.specs.Streams.{frames_of, rest_of, too_large_of}
use Rattle.route_events.specs.declared.fact.Fact.TheVariants as fact
use Rattle.route_events.specs.Journal.{Entry, Happened, Cut, Taken, Journal}

-- the octets of all inputs on a connection, in order
abbrev pub octets_on : Journal → ℕ → List ℕ
octets_on [] conn = []
octets_on (Happened moment (fact.Input to bytes) handed_in ∷ older) conn = if nat_eq to conn then octets_on older conn ++ bytes else octets_on older conn
octets_on (Happened moment _ handed_in ∷ older) conn = octets_on older conn
octets_on (Cut moment cut length ∷ older) conn = octets_on older conn
octets_on (Taken action ∷ older) conn = octets_on older conn

-- the octets behind the whole frames of a connection
abbrev pub unfinished_on : Journal → ℕ → List ℕ
unfinished_on journal conn = rest_of (octets_on journal conn)

-- the frames that further octets end, beyond those of the octets before
abbrev pub frames_behind : List ℕ → List ℕ → List Frame
frames_behind before octets = drop (length (frames_of before)) (frames_of (before ++ octets))

-- an ALTSVC or an ORIGIN frame is delivered, as a fact of its own; another frame passes
abbrev pub delivery : ℕ → ℕ → Frame → List Entry
delivery now conn (Kept head payload) = Happened now (fact.Delivered conn head payload) false ∷ []
delivery now conn (Passed head) = []

-- where a head gives a length that is too large, the octets can't be followed any further (RFC 9113 4.2)
abbrev pub cut_by : ℕ → ℕ → Option ℕ → List Entry
cut_by now conn None = []
cut_by now conn (Some length) = Cut now conn length ∷ []

-- what further octets on a connection make happen: each whole frame is delivered, in order, and then comes the cut
abbrev pub deliveries : ℕ → ℕ → List ℕ → List ℕ → List Entry
deliveries now conn before octets = flat_map (delivery now conn) (frames_behind before octets) ++ cut_by now conn (too_large_of (before ++ octets))
