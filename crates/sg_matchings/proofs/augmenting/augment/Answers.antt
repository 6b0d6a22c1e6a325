use Rattle.std.proofs.Common.{◌≡◌, ◌∙◌, inl, inr, length, false}
use Rattle.std.proofs.Math.ListN.{replicate}
use Rattle.std.proofs.lemmas.Bool.{cases_Bool}
use Rattle.sg_matchings.proofs.Perfect.{matched-more, nothing_seen, search_succeeds}
use Rattle.sg_matchings.proofs.augmenting.augment.Goals as goal

pub returns : goal.returns
returns c =
    let rows = c.args.rows.now in
    let fresh : c.as_mut_slice.result.now ≡ replicate (length rows) false = c.as_mut_slice.ensures.value ∙ c.in_ok-seen.ensures.items_if_clones_equal (λ y h. h) in
    elim (cases_Bool c.reach.result) [
      | inl found ↦ matched-more rows c.args.matched.now c.reach.new.matched c.args.column c.requires.column c.requires.matched c.requires.free c.reach.ensures.matched (c.reach.ensures.found found)
      | inr none ↦ absurd (search_succeeds rows c.requires.table.0 c.requires.table.1.0 c.requires.table.1.1 c.args.matched.now c.args.column c.requires.column c.requires.matched c.requires.free
          c.as_mut_slice.result.now (nothing_seen (length rows) c.as_mut_slice.result.now fresh) c.reach.new.matched c.reach.new.seen (c.reach.ensures.blocked none))
    ]
