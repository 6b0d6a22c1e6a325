use Rattle.std.proofs.Common.{◌≡◌, ◌≢◌, ◌∙◌, ◌∷◌, ◌++◌, ◌+◌, ◌<◌, ℕ, List, [], arith, ap, get_or, length, length-set, set, subst, sym, take}
use Rattle.std.proofs.lemmas.List.{take_all, take_more, take_more_set}
use Rattle.sg_check.specs.Placing.{AreActions}
use Rattle.sg_check.proofs.Placed.{actions-more, some-more}
use Rattle.sg_check.proofs.tree.extended.Goals as goal

-- one more action is written
written : (all acts : List ℕ) (i : ℕ) → length all ≡ 8 → length acts < 8 → i < length acts → take i all ≡ take i acts → take (i + 1) (set all i (get_or acts i 0)) ≡ take (i + 1) acts
written all acts i size few lt same =
    take_more_set all i (get_or acts i 0) (omega (arith, size, few, lt)) ∙ (ap (λ (xs : List ℕ). xs ++ get_or acts i 0 ∷ []) same ∙ sym (take_more acts i 0 lt))

-- and the last one
finished : (all acts : List ℕ) (a i : ℕ) → length all ≡ 8 → length acts < 8 → i ≡ length acts → take i all ≡ take i acts → take (length acts + 1) (set all (length acts) a) ≡ acts ++ a ∷ []
finished all acts a i size few e same =
    let s : take (length acts) all ≡ take (length acts) acts = subst (λ (j : ℕ). take j all ≡ take j acts) e same in
    take_more_set all (length acts) a (omega (arith, size, few)) ∙ ap (λ (xs : List ℕ). xs ++ a ∷ []) (s ∙ take_all (length acts) acts (omega arith))

pub loop-i-preserved : goal.loop-i-preserved
loop-i-preserved c =
    let s : length (set c.loop-i.all c.loop-i.i (get_or c.args.acts.now c.loop-i.i 0)) ≡ length c.loop-i.all = length-set c.loop-i.all c.loop-i.i _ in
    let few : length c.args.acts.now < 8 = omega (arith, c.requires.next, c.types-types.ensures.count, c.types-types.ensures.few) in
    record {
      size = s ∙ c.loop-i.invariant.size;
      same = written c.loop-i.all c.args.acts.now c.loop-i.i c.loop-i.invariant.size few c.loop-i-test.true c.loop-i.invariant.same;
    }

pub returns : goal.returns
returns c =
    let acts = c.args.acts.now in
    let few : length acts < 8 = omega (arith, c.requires.next, c.types-types.ensures.count, c.types-types.ensures.few) in
    let e = finished c.loop-i.all acts c.args.a c.loop-i.i c.loop-i.invariant.size few (omega (arith, c.loop-i-test.false, c.loop-i.auto.i-end)) c.loop-i.invariant.same in
    record {
      list = e;
      some = subst (λ (xs : List ℕ). xs ≢ []) (sym e) (some-more acts c.args.a);
      acts = subst (AreActions c.args.game.now) (sym e) (actions-more c.args.game.now acts c.args.a c.requires.acts c.requires.next c.requires.from_one c.requires.action);
    }
