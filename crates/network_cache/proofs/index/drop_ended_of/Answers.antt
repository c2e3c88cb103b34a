use Rattle.std.proofs.Common.{Some, ap, sym, ◌∙◌}
use Rattle.network_cache.specs.Ends.{ends_elsewhere}
use Rattle.network_cache.specs.Entries.{kept_in}
use Rattle.network_cache.proofs.Lookups.{updated, found_there, narrowed_there, none_there_for}
use Rattle.network_cache.proofs.index.drop_ended_of.Goals as goal

pub returns-in_default : goal.returns-in_default
returns-in_default c = λ o.
    ap (λ index. kept_in index o) c.get_mut.follows.holds-at-none ∙ none_there_for (ends_elsewhere c.args.end) c.args.index.now.entries c.args.origin.now o (sym c.in_default.ensures.value)

pub returns : goal.returns
returns c = λ o.
    let es = c.args.index.now.entries in
    let list = c.without_ended.new.list in
    let found = found_there c.in-Some.all.now c.in-Some.ensures.value in
    c.drop_emptied.ensures o
    ∙ updated es (c.get_mut.follows.lender list).entries c.args.origin.now o (Some list) (((c.get_mut.follows.holds list).3 found).0 o)
    ∙ narrowed_there (ends_elsewhere c.args.end) es c.args.origin.now o c.in-Some.all.now list c.in-Some.ensures.value c.without_ended.ensures
