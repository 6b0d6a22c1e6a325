-- Reading a whole document from what its lists tell.
use Rattle.std.proofs.Common.{◌≡◌, ◌∙◌, ℕ, ◌^◌, Bool, true, false, ◌&&◌, List, [], ◌∷◌, length, ℤ, pos, negsuc, Option, Some, None, Result, Ok, refl, ap}
use Rattle.std.specs.Prelude.{int_lt, int_rem, is_some, nat_le, unwrap_or}
use Rattle.std.specs.List.{list_all}
use Rattle.std.specs.Ordering.{int_eq}
use Rattle.std.proofs.lemmas.Bool.{eqb-true}
use Rattle.std.proofs.lemmas.Bool.Decides.{same_from_decides, Decides-int_eq}
use Rattle.toml.specs.Data.{Data, integer}
use Rattle.sg_model.specs.declared.kind.Kind.TheVariants.{Security, Matrix}
use Rattle.sg_model.specs.declared.fault.Place.TheVariants as place_of
use Rattle.sg_model.specs.declared.fault.GameFault.{GameFault}
use Rattle.sg_model.specs.Games.{Attacker, Game, Named, Payoff}
use Rattle.sg_model.specs.Origami.{gap}
use Rattle.sg_model.specs.Limits.{program_rows}
use Rattle.sg_model.specs.Sums.{positive_part}
use Rattle.sg_game.specs.Faults.{◌orelse◌, fault_unless, goal_limit, is_scaled_game, is_scaled_payoff, is_within, option_fault, patrol_limit, whole_fault}
use Rattle.sg_model.specs.Steps.{◌>>=◌}
use Rattle.sg_format.specs.Documents.{number_at}
use Rattle.sg_format.specs.Lists.{names_at, resources_at, schedules_at}
use Rattle.sg_format.specs.Types.{matrix_types_at, security_types_at}
use Rattle.sg_format.specs.GameFiles.{fits_scale, form_of, game_of_table, is_zero, limits_of, listed_game, matrix_game, patrols_game, resources_game, scale_at, version_of}
use Rattle.sg_document_laws.specs.Tables.{matrix_table, patrols_table, resources_table}
use Rattle.sg_document_laws.specs.Orders.{told}
use Rattle.sg_document_laws.proofs.Told.{after, into, last_test}
use Rattle.sg_document_laws.proofs.Typed.{number_at-integer}

-- the limits of the game

zero_is : (z : ℤ) → is_zero z ≡ true → z ≡ pos 0
zero_is (pos n) e = ap (λ k. pos k) (eqb-true n 0 e)
zero_is (negsuc n) e = absurd (cc)

zero_same : (z : ℤ) → is_zero z ≡ int_eq z (pos 0)
zero_same z = same_from_decides (is_zero z) (int_eq z (pos 0)) (zero_is z, λ e. ap is_zero e) (Decides-int_eq z (pos 0))

all_same : {X : Type 0} (f g : X → Bool) → ((x : X) → f x ≡ g x) → (xs : List X) → list_all f xs ≡ list_all g xs
all_same f g h [] = refl
all_same f g h (x ∷ xs) = rw (h x, all_same f g h xs) refl

fits_same : (scale : ℤ) (p : Payoff) → fits_scale scale p ≡ is_scaled_payoff scale p
fits_same scale p = ap (λ b. (int_lt p.du p.dc && int_lt p.ac p.au) && b) (zero_same (int_rem scale (gap p)))

-- a game within its limits
abbrev within_limits : Bool → Game → Result Game GameFault
within_limits scaled g = limits_of g scaled >>= (λ within. Ok g)

limits_told : (scaled : Bool) (g : Game) → within_limits scaled g ≡ told (whole_fault scaled g) g
unfolding limits_of
limits_told true g =
    let same : list_all (λ (x : Attacker). list_all (fits_scale g.scale) x.payoffs) g.types ≡ is_scaled_game g =
    all_same (λ (x : Attacker). list_all (fits_scale g.scale) x.payoffs) (λ (x : Attacker). list_all (is_scaled_payoff g.scale) x.payoffs)
    (λ x. all_same (fits_scale g.scale) (is_scaled_payoff g.scale) (fits_same g.scale) x.payoffs) g.types in
    rw same (last_test (is_scaled_game g) 11 (place_of.Attacker 1) g)
limits_told false g = last_test (nat_le (program_rows g) 1536) 10 place_of.Document g

same_limits : (scaled : Bool) (read g : Game) → read ≡ g → within_limits scaled read ≡ told (whole_fault scaled g) g
same_limits scaled read g same = ap (within_limits scaled) same ∙ limits_told scaled g

-- games of identical patrols

-- the fault of a scale
abbrev pub scale_fault : Option ℤ → Option GameFault
scale_fault scale = option_fault (pos 1) (pos (2 ^ 32)) scale

-- the fault of a number of patrols
abbrev pub patrols_fault : Bool → ℤ → Option GameFault
patrols_fault scaled patrols = fault_unless (is_within (pos 0) (patrol_limit scaled) patrols) 9 place_of.Document

-- the game that is read of these
abbrev pub patrols_made : Option ℤ → ℤ → List (List ℕ) → List Attacker → Game
patrols_made scale patrols targets types =
    record { kind = Security; scale = unwrap_or scale (pos 0); patrols = Some (positive_part patrols); goals = targets; schedules = []; resources = []; types = types }

module _ (scale : Option ℤ) (patrols : ℤ) (listing attackers : Data) (f1 f4 : Option GameFault) (targets : List (List ℕ)) (types : List Attacker) (g : Game)
    (first : names_at place_of.Document place_of.Target (goal_limit Security (is_some scale)) listing ≡ told f1 targets)
    (fourth : security_types_at (is_some scale) (length targets) attackers ≡ told f4 types)
    (same : patrols_made scale patrols targets types ≡ g) where
  -- the first fault
  abbrev pub patrols_chain : Option GameFault
  patrols_chain = f1 orelse (scale_fault scale orelse (patrols_fault (is_some scale) patrols orelse (f4 orelse whole_fault (is_some scale) g)))

  in_patrols : (declared : Option Data) → scale_at declared ≡ told (scale_fault scale) scale
      → (names_at place_of.Document place_of.Target (goal_limit Security (is_some scale)) listing >>= (λ names.
      scale_at declared >>= (λ given.
      number_at place_of.Document (pos 0) (patrol_limit (is_some scale)) (integer patrols) >>= (λ number.
      security_types_at (is_some scale) (length names) attackers >>= (λ people. within_limits (is_some scale) (patrols_made given number names people))))))
      ≡ told patrols_chain g
  in_patrols declared second =
      let scaled : Bool = is_some scale in
      let f2 = scale_fault scale in
      let f3 = patrols_fault scaled patrols in
      let f5 = whole_fault scaled g in
      let last = after (security_types_at scaled (length targets) attackers) (λ people. within_limits scaled (patrols_made scale patrols targets people)) f4 f5 types g fourth
      (λ e4. same_limits scaled (patrols_made scale patrols targets types) g same) in
      after (names_at place_of.Document place_of.Target (goal_limit Security scaled) listing)
      (λ names. scale_at declared >>= (λ given. number_at place_of.Document (pos 0) (patrol_limit scaled) (integer patrols) >>= (λ number.
      security_types_at scaled (length names) attackers >>= (λ people. within_limits scaled (patrols_made given number names people)))))
      f1 (f2 orelse (f3 orelse (f4 orelse f5))) targets g first (λ e1.
      after (scale_at declared)
      (λ given. number_at place_of.Document (pos 0) (patrol_limit scaled) (integer patrols) >>= (λ number.
      security_types_at scaled (length targets) attackers >>= (λ people. within_limits scaled (patrols_made given number targets people))))
      f2 (f3 orelse (f4 orelse f5)) scale g second (λ e2.
      after (number_at place_of.Document (pos 0) (patrol_limit scaled) (integer patrols))
      (λ number. security_types_at scaled (length targets) attackers >>= (λ people. within_limits scaled (patrols_made scale number targets people)))
      f3 (f4 orelse f5) patrols g (number_at-integer place_of.Document (pos 0) (patrol_limit scaled) patrols) (λ e3. last)))

scale_told : (scale : ℤ) → scale_at (Some (integer scale)) ≡ told (scale_fault (Some scale)) (Some scale)
unfolding scale_at
scale_told scale =
    into (number_at place_of.Document (pos 1) (pos (2 ^ 32)) (integer scale)) (λ given. Some given) (scale_fault (Some scale)) scale
    (number_at-integer place_of.Document (pos 1) (pos (2 ^ 32)) scale)

no_scale_told : scale_at None ≡ told (scale_fault None) None
unfolding scale_at
no_scale_told = refl

pub patrols_told : (scale : Option ℤ) (patrols : ℤ) (listing attackers : Data) (f1 f4 : Option GameFault) (targets : List (List ℕ)) (types : List Attacker) (g : Game)
    → names_at place_of.Document place_of.Target (goal_limit Security (is_some scale)) listing ≡ told f1 targets
    → security_types_at (is_some scale) (length targets) attackers ≡ told f4 types
    → patrols_made scale patrols targets types ≡ g
    → game_of_table (patrols_table scale patrols listing attackers) ≡ told (f1 orelse (scale_fault scale orelse (patrols_fault (is_some scale) patrols orelse (f4 orelse whole_fault (is_some scale) g)))) g
unfolding game_of_table version_of form_of patrols_game
patrols_told (Some scale) patrols listing attackers f1 f4 targets types g first fourth same =
    in_patrols (Some scale) patrols listing attackers f1 f4 targets types g first fourth same (Some (integer scale)) (scale_told scale)
patrols_told None patrols listing attackers f1 f4 targets types g first fourth same =
    in_patrols None patrols listing attackers f1 f4 targets types g first fourth same None no_scale_told

-- games of listed schedules and resources

-- the game that is read of these
abbrev pub resources_made : List (List ℕ) → List Named → List Named → List Attacker → Game
resources_made targets schedules resources types =
    record { kind = Security; scale = pos 0; patrols = None; goals = targets; schedules = schedules; resources = resources; types = types }

pub resources_told : (listing given manned attackers : Data) (f1 f2 f3 f4 : Option GameFault) (targets : List (List ℕ)) (schedules resources : List Named) (types : List Attacker)
    → names_at place_of.Document place_of.Target 200 listing ≡ told f1 targets
    → (f1 ≡ None → schedules_at targets given ≡ told f2 schedules)
    → (f2 ≡ None → resources_at schedules manned ≡ told f3 resources)
    → security_types_at false (length targets) attackers ≡ told f4 types
    → game_of_table (resources_table None listing given manned attackers)
    ≡ told (f1 orelse (f2 orelse (f3 orelse (f4 orelse whole_fault false (resources_made targets schedules resources types))))) (resources_made targets schedules resources types)
unfolding game_of_table version_of form_of resources_game listed_game
resources_told listing given manned attackers f1 f2 f3 f4 targets schedules resources types first second third fourth =
    let g : Game = resources_made targets schedules resources types in
    let f5 = whole_fault false g in
    after (names_at place_of.Document place_of.Target 200 listing)
    (λ names. schedules_at names given >>= (λ held. resources_at held manned >>= (λ hands.
    security_types_at false (length names) attackers >>= (λ people. within_limits false (resources_made names held hands people)))))
    f1 (f2 orelse (f3 orelse (f4 orelse f5))) targets g first (λ e1.
    after (schedules_at targets given)
    (λ held. resources_at held manned >>= (λ hands. security_types_at false (length targets) attackers >>= (λ people. within_limits false (resources_made targets held hands people))))
    f2 (f3 orelse (f4 orelse f5)) schedules g (second e1) (λ e2.
    after (resources_at schedules manned)
    (λ hands. security_types_at false (length targets) attackers >>= (λ people. within_limits false (resources_made targets schedules hands people)))
    f3 (f4 orelse f5) resources g (third e2) (λ e3.
    after (security_types_at false (length targets) attackers) (λ people. within_limits false (resources_made targets schedules resources people))
    f4 f5 types g fourth (λ e4. limits_told false g))))

-- a scale without patrols
pub scale_alone : (scale : ℤ) (listing given manned attackers : Data) (g : Game) → game_of_table (resources_table (Some scale) listing given manned attackers) ≡ told (fault_unless false 3 place_of.Document) g
unfolding game_of_table version_of form_of resources_game
scale_alone scale listing given manned attackers g = refl

-- games in matrix form

-- the game that is read of these
abbrev pub matrix_made : List (List ℕ) → List Attacker → Game
matrix_made rows types = record { kind = Matrix; scale = pos 0; patrols = None; goals = rows; schedules = []; resources = []; types = types }

pub matrix_told : (listing attackers : Data) (f1 f2 : Option GameFault) (rows : List (List ℕ)) (types : List Attacker) (g : Game)
    → names_at place_of.Document place_of.Row 4096 listing ≡ told f1 rows
    → matrix_types_at (length rows) attackers ≡ told f2 types
    → matrix_made rows types ≡ g
    → game_of_table (matrix_table listing attackers) ≡ told (f1 orelse (f2 orelse whole_fault false g)) g
unfolding game_of_table version_of form_of matrix_game
matrix_told listing attackers f1 f2 rows types g first second same =
    let f3 = whole_fault false g in
    after (names_at place_of.Document place_of.Row 4096 listing)
    (λ names. matrix_types_at (length names) attackers >>= (λ people. within_limits false (matrix_made names people)))
    f1 (f2 orelse f3) rows g first (λ e1.
    after (matrix_types_at (length rows) attackers) (λ people. within_limits false (matrix_made rows people))
    f2 f3 types g second (λ e2. same_limits false (matrix_made rows types) g same))
