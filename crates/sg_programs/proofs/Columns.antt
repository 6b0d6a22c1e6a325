-- The columns of a program of plays.
use Rattle.std.proofs.Common.{◌≡◌, ℕ, ◌≤◌, Bool, true, false, List, length, map, replicate, sym, ap, subst, refl, arith, inl, inr, Option, Some, None, MatchBool, slice_index_or}
use Rattle.std.specs.List.{All}
use Rattle.std.specs.Prelude.{ℤ, pos, int_lt, ◌-◌}
use Rattle.std.proofs.lemmas.List.Elements.{All-map}
use Rattle.std.proofs.Math.Seq.{take-append_seam}
use Rattle.sg_model.specs.Games.{Game, is_matrix, resource_count}
use Rattle.sg_model.specs.Limits.{IsDefended, IsGame, is_scaled}
use Rattle.sg_model.specs.Plays.{IsLegal, IsLegalJoint, IsRow}
use Rattle.sg_model.specs.PlayLists.{legal_plays}
use Rattle.sg_model.proofs.LegalPlays.{legal_plays-complete, legal_plays-legal}
use Rattle.sg_model.proofs.Payoffs.{Contains-map}
use Rattle.sg_model.proofs.Promises.{game_cases}
use Rattle.sg_lp.specs.declared.column.Column.{Column}
use Rattle.sg_programs.specs.Plays.{column_of, play_of}
use Rattle.sg_programs.specs.Laws.{ColumnsArePlays}

few : (g : Game) (o : Option ℕ) → g.patrols ≡ o → IsDefended g o → is_scaled g ≡ false → resource_count g ≤ 32
few g (Some n) e d f = let is : resource_count g ≡ n = rw e refl in let low = rw f at d.few in omega (arith, is, low)
few g None e d f = let is : resource_count g ≡ length g.resources = rw e refl in let low = d.resources.few in omega (arith, is, low)

-- without a scale there are at most 32 resources
pub few_resources : (g : Game) → IsGame g → g.scale ≡ pos 0 → resource_count g ≤ 32
few_resources g h e = elim (game_cases g h) [
  | inl s ↦ few g g.patrols refl s.game.defended (ap (λ (z : ℤ). int_lt (pos 0) z) e)
  | inr m ↦ (
      let none = m.game.no_patrols in
      let is : resource_count g ≡ length g.resources = rw none refl in
      omega (arith, is, ap length m.game.no_resources))
]

short : (n : ℕ) (g : Game) (play : List ℕ) (b : Bool) → resource_count g ≤ 32 → MatchBool b (IsRow g play) (IsLegalJoint g play) → length play ≤ 32
short n g play true h is = omega (arith, is.one)
short n g play false h is = omega (arith, is.one_each, h)

-- so a play has at most 32 choices
pub short_play : (g : Game) → IsGame g → g.scale ≡ pos 0 → (play : List ℕ) → IsLegal g play → length play ≤ 32
short_play g h e play legal = short 0 g play (is_matrix g) (few_resources g h e) legal

-- a column tells its play
pub play-column : (play : List ℕ) → play_of (column_of play) ≡ play
play-column play = take-append_seam play (replicate (32 - length play) 0)

pub columns_legal : (g : Game) → All (λ (c : Column). IsLegal g (play_of c)) (map column_of (legal_plays g))
columns_legal g =
    All-map (λ (c : Column). IsLegal g (play_of c)) column_of (legal_plays g)
    (λ i d lt. subst (IsLegal g) (sym (play-column (slice_index_or (legal_plays g) i d))) (legal_plays-legal g i d lt))

pub columns_are_plays : ColumnsArePlays
columns_are_plays g h e fix = record {
  legal = columns_legal g;
  complete = λ play legal. Contains-map column_of (legal_plays g) play (legal_plays-complete g play legal);
  told = λ play legal. play-column play;
}
