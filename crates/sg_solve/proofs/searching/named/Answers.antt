use Rattle.std.proofs.Common.{ap, subst, sym}
use Rattle.std.specs.Prelude.{All}
use Rattle.sg_model.specs.Games.{Game}
use Rattle.sg_model.specs.Payoffs.{IsPeopled}
use Rattle.sg_model.proofs.Promises.{peopled}
use Rattle.sg_search.specs.Searches.{Task}
use Rattle.sg_search.specs.Results.{IsResult}
use Rattle.sg_solve.proofs.Asked.{asked, handed, none-where}
use Rattle.sg_solve.proofs.searching.named.Goals as goal

pub event-requires : goal.event-requires
event-requires c = asked c.args.lanes.now c.args.order.now.lanes c.told-ready.result c.told-ready.ensures.eight c.requires.order.most_lanes c.told-ready.ensures.told

pub returns-clause-selects : goal.returns-clause-selects
returns-clause-selects c =
    let w = c.requires.under_way in
    let same = sym (ap (λ (p : Task). p.game) w.about) in
    c.event.ensures.selects c.args.lanes.now.task c.args.lanes.now.search
    (handed c.args.lanes.now c.args.order.now.lanes c.told-ready.result c.told-ready.ensures.eight c.requires.order.most_lanes c.told-ready.ensures.told
    (subst IsPeopled same (peopled c.args.game.now c.promises.ensures)) w.same_lanes (subst (λ (g : Game). All (IsResult g) c.args.lanes.now.search.worked) same w.results))

pub returns-clause-ends : goal.returns-clause-ends
returns-clause-ends c =
    let w = c.requires.under_way in
    let same = sym (ap (λ (p : Task). p.game) w.about) in
    none-where c.event.result _ (c.event.ensures.ends c.args.lanes.now.task c.args.lanes.now.search
    (handed c.args.lanes.now c.args.order.now.lanes c.told-ready.result c.told-ready.ensures.eight c.requires.order.most_lanes c.told-ready.ensures.told
    (subst IsPeopled same (peopled c.args.game.now c.promises.ensures)) w.same_lanes (subst (λ (g : Game). All (IsResult g) c.args.lanes.now.search.worked) same w.results)))
