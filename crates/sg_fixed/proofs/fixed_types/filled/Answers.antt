use Rattle.std.proofs.Common.{◌≡◌, ◌∙◌, ◌∷◌, ◌++◌, ◌+◌, ◌<◌, ◌≤◌, ℕ, List, [], arith, ap, get_or, length, length-set, set, subst, sym, take}
use Rattle.std.proofs.lemmas.List.{take_all, take_more, take_more_set}
use Rattle.sg_fixed.proofs.fixed_types.filled.Goals as goal

-- one more action is written
written : (room acts : List ℕ) (i : ℕ) → length room ≡ 8 → length acts ≤ 8 → i < length acts → take i room ≡ take i acts → take (i + 1) (set room i (get_or acts i 0)) ≡ take (i + 1) acts
written room acts i size few lt same =
    take_more_set room i (get_or acts i 0) (omega (arith, size, few, lt)) ∙ (ap (λ (xs : List ℕ). xs ++ get_or acts i 0 ∷ []) same ∙ sym (take_more acts i 0 lt))

finished : (room acts : List ℕ) (i : ℕ) → i ≡ length acts → take i room ≡ take i acts → take (length acts) room ≡ acts
finished room acts i e same = subst (λ (j : ℕ). take j room ≡ take j acts) e same ∙ take_all (length acts) acts (omega arith)

pub loop-i-preserved : goal.loop-i-preserved
loop-i-preserved c =
    let s : length (set c.loop-i.room c.loop-i.i (get_or c.args.acts.now c.loop-i.i 0)) ≡ length c.loop-i.room = length-set c.loop-i.room c.loop-i.i _ in
    record {
      size = s ∙ c.loop-i.invariant.size;
      same = written c.loop-i.room c.args.acts.now c.loop-i.i c.loop-i.invariant.size c.requires c.loop-i-test.true c.loop-i.invariant.same;
    }

pub returns : goal.returns
returns c = finished c.loop-i.room c.args.acts.now c.loop-i.i (omega (arith, c.loop-i-test.false, c.loop-i.auto.i-end)) c.loop-i.invariant.same
