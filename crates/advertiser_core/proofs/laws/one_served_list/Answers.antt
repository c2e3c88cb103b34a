use Rattle.advertiser_core.proofs.ServedLists.{served_by_since, list_is}
use Rattle.advertiser_core.proofs.OneList.{only_list}
use Rattle.advertiser_core.proofs.laws.one_served_list.Goals as goal

pub returns-clause-since : goal.returns-clause-since
returns-clause-since c = served_by_since

pub returns-clause-some : goal.returns-clause-some
returns-clause-some c = list_is

pub returns-clause-only : goal.returns-clause-only
returns-clause-only c = only_list
