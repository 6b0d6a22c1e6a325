-- Parts that say all of a generated game.
use Rattle.std.proofs.Common.{◌≡◌, ◌∙◌, ℕ, List, [], ◌∷◌, length, map, sym, ap, subst, refl, arith, ℤ, pos, Some, None}
use Rattle.std.specs.Prelude.{◌+◌, ◌*◌, ◌^◌, Vec, codes}
use Rattle.std.specs.declared.alloc.Global.{Global}
use Rattle.std.specs.List.{All}
use Rattle.std.proofs.lemmas.Int.{ints}
use Rattle.std.proofs.lemmas.List.Elements.{All-nil, All-cons}
use Rattle.sg_model.specs.declared.kind.Kind.TheVariants.{Security, Matrix}
use Rattle.sg_model.specs.Sums.{numbers_from}
use Rattle.sg_game.specs.declared.parts.Parts.{Parts}
use Rattle.sg_game.specs.declared.parts.TypeParts.{TypeParts}
use Rattle.sg_game.specs.Building.{AreMatrixParts, IsSecurityParts}
use Rattle.sg_game.specs.Seen.{attacker_of, named_of, number_lists, texts}
use Rattle.sg_gen.specs.Draws.{in_turn}
use Rattle.sg_gen.specs.Generated.{block_lists, block_row, blocks_game, blocks_lists, free_game, free_row, lone_attacker, named_lists, numbered_names, shares_of}
use Rattle.sg_gen.specs.Making.{IsPartsOf}

abbrev IsFour : Vec ℤ Global → Type 0
IsFour row = length row.items ≡ 4

-- rows that are seen as lists of four
fours : (f : ℕ → List ℤ) → ((k : ℕ) → length (f k) ≡ 4) → (ks : List ℕ) (rows : List (Vec ℤ Global)) → number_lists rows ≡ map f ks → All IsFour rows
fours f four [] [] e = All-nil IsFour
fours f four [] (row ∷ rows) e = cc
fours f four (k ∷ ks) [] e = cc
fours f four (k ∷ ks) (row ∷ rows) e =
    let first : row.items ≡ f k = cc in
    let rest : number_lists rows ≡ map f ks = cc in
    All-cons IsFour row rows (ap length first ∙ four k) (fours f four ks rows rest)

no_matrix_parts : (p : Parts) → p.kind ≡ Security → p.kind ≡ Matrix → AreMatrixParts p
no_matrix_parts p e m = cc

-- the payoffs of the one type
told_payoffs : (p : Parts) (payoffs : List (Vec ℤ Global)) → All (λ (x : TypeParts). x.payoffs.items ≡ payoffs) p.types.items → All IsFour payoffs → All (λ (x : TypeParts). All IsFour x.payoffs.items) p.types.items
told_payoffs p payoffs same four = λ i d lt. subst (All IsFour) (sym (same i d lt)) four

pub free-parts : (p : Parts) (targets patrols seed : ℕ) (payoffs : List (Vec ℤ Global)) → p.kind ≡ Security → p.scale ≡ Some (pos (2 ^ 32)) → p.patrols ≡ Some (pos patrols) → texts p.goals.items ≡ numbered_names (codes "t") targets
    → p.schedules.items ≡ [] → p.resources.items ≡ [] → map attacker_of p.types.items ≡ lone_attacker (number_lists payoffs) ∷ [] → All IsSecurityParts p.types.items → All (λ (x : TypeParts). x.payoffs.items ≡ payoffs) p.types.items
    → number_lists payoffs ≡ in_turn free_row 4 targets seed 0 → IsPartsOf p (free_game seed targets patrols)
free-parts p targets patrols seed payoffs kind scale count goals schedules resources types own same drawn = record {
  own = record { security = λ _. own; matrix = no_matrix_parts p kind; schedules = λ _. schedules; resources = λ _. resources };
  told = record {
    scale = rw scale (omega (arith, ints));
    patrols = rw count (omega (arith, ints));
    payoffs = told_payoffs p payoffs same (fours (λ (i : ℕ). free_row seed (0 + i * 4)) (λ k. refl) (numbers_from 0 targets) payoffs drawn);
  };
  game = rw (kind, scale, count, goals, schedules, resources, types, drawn) refl;
}

pub blocks-parts : (p : Parts) (blocks width span seed : ℕ) (payoffs : List (Vec ℤ Global)) → p.kind ≡ Security → p.scale ≡ None → p.patrols ≡ None → texts p.goals.items ≡ numbered_names (codes "t") (blocks * width)
    → map named_of p.schedules.items ≡ named_lists (codes "s") 1 (blocks_lists blocks width) → map named_of p.resources.items ≡ named_lists (codes "r") 1 (shares_of blocks (length (block_lists width 0)))
    → map attacker_of p.types.items ≡ lone_attacker (number_lists payoffs) ∷ [] → All IsSecurityParts p.types.items → All (λ (x : TypeParts). x.payoffs.items ≡ payoffs) p.types.items
    → number_lists payoffs ≡ in_turn (block_row span) 1 (blocks * width) seed 0 → IsPartsOf p (blocks_game seed blocks width span)
blocks-parts p blocks width span seed payoffs kind scale count goals schedules resources types own same drawn = record {
  own = record { security = λ _. own; matrix = no_matrix_parts p kind; schedules = λ some. absurd (some count); resources = λ some. absurd (some count) };
  told = record {
    scale = rw scale tt;
    patrols = rw count tt;
    payoffs = told_payoffs p payoffs same (fours (λ (i : ℕ). block_row span seed (0 + i * 1)) (λ k. refl) (numbers_from 0 (blocks * width)) payoffs drawn);
  };
  game = rw (kind, scale, count, goals, schedules, resources, types, drawn) refl;
}
