-- The shapes of generated games, and their texts.
use Rattle.std.specs.Prelude.{◌≡◌, ◌≢◌, ℕ, ◌*◌, ◌≤◌, List, ◌++◌, Option, Some, None, codes, decimal}
use Rattle.sg_model.specs.Limits.{IsCount}
use Rattle.sg_gen.specs.declared.shape.Shape.{Shape}
use Rattle.sg_gen.specs.declared.shape.Shape.TheVariants.{Free, Blocks, Table}

-- the numbers of a shape are in their ranges
abbrev pub IsShape : Shape → Type 0
IsShape (Free targets patrols) = IsCount 1 10000 targets × IsCount 0 200 patrols
IsShape (Blocks resources width span) = IsCount 1 8 resources × IsCount 2 10 width × IsCount 1 1000 span
IsShape (Table rows actions types) = IsCount 1 4096 rows × IsCount 1 64 actions × IsCount 1 8 types × (rows * actions * types ≤ 200000)

-- its kind and its numbers, each in decimal digits, with a dash between two
abbrev pub shape_text : Shape → List ℕ
shape_text (Free targets patrols) = codes "free-" ++ (decimal targets ++ (codes "-" ++ decimal patrols))
shape_text (Blocks resources width span) = codes "blocks-" ++ (decimal resources ++ (codes "-" ++ (decimal width ++ (codes "-" ++ decimal span))))
shape_text (Table rows actions types) = codes "matrix-" ++ (decimal rows ++ (codes "-" ++ (decimal actions ++ (codes "-" ++ decimal types))))

-- the shape in range that a text spells, and none where it spells none
abbrev pub ReadsShape : List ℕ → Option Shape → Type 0
ReadsShape text None = (shape : Shape) → IsShape shape → text ≢ shape_text shape
ReadsShape text (Some shape) = IsShape shape × (text ≡ shape_text shape)
