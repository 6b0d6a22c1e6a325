use Rattle.std.proofs.Common.{rules, ◌≡◌, ◌+◌, ◌<◌, ◌++◌, ◌∷◌, [], ◌∙◌, ap, sym, subst, arith, length, get_or, map, drop, to_z, of_z, List, ℤ, ℕ, pos, ◌+ℤ◌}
use Rattle.std.specs.Int.{w128}
use Rattle.std.specs.List.{All}
use Rattle.std.specs.Prelude.{FitsSigned}
use Rattle.std.proofs.lemmas.Int.{ints}
use Rattle.std.proofs.lemmas.List.{map_push}
use Rattle.std.proofs.lemmas.List.Elements.{All-push}
use Rattle.sg_split.specs.declared.place.Place.{Place}
use Rattle.sg_split.specs.Laying.{ends_from}
use Rattle.sg_split.specs.Lines.{IsMoment, spot}
use Rattle.sg_split.proofs.Ends.{ends_from-more}
use Rattle.sg_split.proofs.place.ends_of.Goals as goal

pub loop-count-preserved : goal.loop-count-preserved
loop-count-preserved c =
    let counts : List ℤ = c.args.counts.now in
    let m : ℤ = to_z w128 (of_z w128 c.args.moments) in
    let i : ℕ = c.loop-count.count-index in
    let ends : List Place = c.loop-count.ends in
    let next : Place = c.further-place.result in
    let inv = c.loop-count.invariant in
    let lt : i < length counts = omega (arith, c.loop-count-test.true) in
    let f : FitsSigned w128 (get_or counts i (pos 0)) = search rules in
    let step : spot m next ≡ spot m c.loop-count.place +ℤ get_or counts i (pos 0) = omega (arith, ints, c.further-place.ensures.spot, f) in
    let pushed : c.push.new.self ≡ ends ++ next ∷ [] = c.in_ok-push.ensures.ok in
    record {
      moment = c.further-place.ensures.moment;
      patrol = omega (arith, c.further-place.ensures.patrol, inv.patrol);
      all = inv.all ∙ (ends_from-more (map (spot m) ends) (spot m c.loop-count.place) (spot m next) counts i lt step
          ∙ ap (λ (xs : List ℤ). xs ++ ends_from (spot m next) (drop (i + 1) counts)) (sym (ap (map (spot m)) pushed ∙ map_push (spot m) ends next)));
      each = subst (λ (xs : List Place). All (λ (end : Place). IsMoment m end.moment) xs) (sym pushed) (All-push (λ (end : Place). IsMoment m end.moment) ends next inv.each c.further-place.ensures.moment);
    }
