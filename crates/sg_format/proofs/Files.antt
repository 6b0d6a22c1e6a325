-- The steps by which a document is the document of a game.
use Rattle.std.proofs.Common.{◌≡◌, ℕ, Bool, true, false, not, List, [], length, ℤ, pos, Option, Some, None, is_some, unwrap_or, Ok, refl, subst}
use Rattle.std.specs.Prelude.{codes, if◌then◌else◌}
use Rattle.std.proofs.lemmas.Bool.{not-true}
use Rattle.toml.specs.Data.{Data, Members, get_member}
use Rattle.sg_model.specs.declared.fault.Place.TheVariants as place_of
use Rattle.sg_model.specs.declared.kind.Kind.{Kind}
use Rattle.sg_model.specs.declared.kind.Kind.TheVariants.{Security, Matrix}
use Rattle.sg_model.specs.Games.{Attacker, Game, Named}
use Rattle.sg_model.specs.Limits.{is_scaled}
use Rattle.sg_format.specs.Documents.{has_only, needed_at, number_at}
use Rattle.sg_format.specs.Lists.{names_at, resources_at, schedules_at}
use Rattle.sg_format.specs.Types.{matrix_types_at, security_types_at}
use Rattle.sg_model.specs.Sums.{positive_part}
use Rattle.sg_format.specs.GameFiles.{form_of, game_of_form, game_of_table, is_matrix_key, is_patrols_key, is_resources_key, limits_of, listed_game, matrix_game, patrols_game, resources_game, scale_at, security_game, version_of}
use Rattle.sg_format.proofs.Inversion.{after, after_test, needed_is}
use Rattle.sg_format.proofs.Values.{scale_at-scale}

-- the games of the three kinds, from what their documents list
abbrev pub tabled : List (List ℕ) → List Attacker → Game
tabled rows types = record { kind = Matrix; scale = pos 0; patrols = None; goals = rows; schedules = []; resources = []; types = types }

abbrev pub patrolled : ℤ → ℕ → List (List ℕ) → List Attacker → Game
patrolled scale patrols targets types = record { kind = Security; scale = scale; patrols = Some patrols; goals = targets; schedules = []; resources = []; types = types }

abbrev pub scheduled : List (List ℕ) → List Named → List Named → List Attacker → Game
scheduled targets schedules resources types = record { kind = Security; scale = pos 0; patrols = None; goals = targets; schedules = schedules; resources = resources; types = types }

-- a document in matrix form
pub record IsMatrixFile (table : Members) (g : Game) : Type 0 where
  pub listed : Data
  pub attackers : Data
  pub kind : g.kind ≡ Matrix
  pub known : has_only is_matrix_key table ≡ true
  pub rows_there : get_member (codes "rows") table ≡ Some listed
  pub types_there : get_member (codes "type") table ≡ Some attackers
  pub rows : names_at place_of.Document place_of.Row 4096 listed ≡ Ok g.goals
  pub types : matrix_types_at (length g.goals) attackers ≡ Ok g.types
  pub whole : tabled g.goals g.types ≡ g
  pub limits : limits_of (tabled g.goals g.types) false ≡ Ok tt

matrix_file : (table : Members) (g : Game) → matrix_game table ≡ Ok g → IsMatrixFile table g
unfolding matrix_game
matrix_file table g h =
    after_test (has_only is_matrix_key table) _ _ h (λ e1 h1.
    after (needed_at place_of.Document (codes "rows") table) h1 (λ listed e2 h2.
    after (needed_at place_of.Document (codes "type") table) h2 (λ attackers e3 h3.
    after (names_at place_of.Document place_of.Row 4096 listed) h3 (λ rows e4 h4.
    after (matrix_types_at (length rows) attackers) h4 (λ types e5 h5.
    let y = tabled rows types in
    after (limits_of y false) h5 (λ u e6 last.
    let same : y ≡ g = cc in
    let is : IsMatrixFile table y = record {
      listed = listed;
      attackers = attackers;
      kind = refl;
      known = e1;
      rows_there = needed_is (get_member (codes "rows") table) _ _ listed e2;
      types_there = needed_is (get_member (codes "type") table) _ _ attackers e3;
      rows = e4;
      types = e5;
      whole = refl;
      limits = e6;
    } in
    subst (IsMatrixFile table) same is))))))

-- a document with patrols
pub record IsPatrolsFile (given : Data) (table : Members) (g : Game) : Type 0 where
  pub listed : Data
  pub attackers : Data
  pub patrols : ℕ
  pub kind : g.kind ≡ Security
  pub identical : g.patrols ≡ Some patrols
  pub scale : Option ℤ
  pub count : ℤ
  pub counted : patrols ≡ positive_part count
  pub scale_is : g.scale ≡ unwrap_or scale (pos 0)
  pub scaled : is_scaled g ≡ is_some (get_member (codes "scale") table)
  pub known : has_only is_patrols_key table ≡ true
  pub targets_there : get_member (codes "targets") table ≡ Some listed
  pub types_there : get_member (codes "type") table ≡ Some attackers
  pub targets : names_at place_of.Document place_of.Target (if is_some (get_member (codes "scale") table) then 10000 else 200) listed ≡ Ok g.goals
  pub scale_read : scale_at (get_member (codes "scale") table) ≡ Ok scale
  pub count_read : number_at place_of.Document (pos 0) (pos (if is_some (get_member (codes "scale") table) then 200 else 32)) given ≡ Ok count
  pub types : security_types_at (is_some (get_member (codes "scale") table)) (length g.goals) attackers ≡ Ok g.types
  pub whole : patrolled (unwrap_or scale (pos 0)) (positive_part count) g.goals g.types ≡ g
  pub limits : limits_of (patrolled (unwrap_or scale (pos 0)) (positive_part count) g.goals g.types) (is_some (get_member (codes "scale") table)) ≡ Ok tt

patrols_file : (given : Data) (table : Members) (g : Game) → patrols_game given table ≡ Ok g → IsPatrolsFile given table g
unfolding patrols_game
patrols_file given table g h =
    after_test (has_only is_patrols_key table) _ _ h (λ e1 h1.
    after (needed_at place_of.Document (codes "targets") table) h1 (λ listed e2 h2.
    after (needed_at place_of.Document (codes "type") table) h2 (λ attackers e3 h3.
    let declared = get_member (codes "scale") table in
    let scaled : Bool = is_some declared in
    after (names_at place_of.Document place_of.Target (if scaled then 10000 else 200) listed) h3 (λ targets e4 h4.
    after (scale_at declared) h4 (λ scale e5 h5.
    after (number_at place_of.Document (pos 0) (pos (if scaled then 200 else 32)) given) h5 (λ patrols e6 h6.
    after (security_types_at scaled (length targets) attackers) h6 (λ types e7 h7.
    let y = patrolled (unwrap_or scale (pos 0)) (positive_part patrols) targets types in
    after (limits_of y scaled) h7 (λ u e8 last.
    let same : y ≡ g = cc in
    let is : IsPatrolsFile given table y = record {
      listed = listed;
      attackers = attackers;
      patrols = positive_part patrols;
      scale = scale;
      count = patrols;
      counted = refl;
      scale_is = refl;
      scaled = (scale_at-scale declared scale e5).is;
      scale_read = e5;
      count_read = e6;
      kind = refl;
      identical = refl;
      known = e1;
      targets_there = needed_is (get_member (codes "targets") table) _ _ listed e2;
      types_there = needed_is (get_member (codes "type") table) _ _ attackers e3;
      targets = e4;
      types = e7;
      whole = refl;
      limits = e8;
    } in
    subst (IsPatrolsFile given table) same is))))))))

-- a document with listed schedules and resources
pub record IsListedFile (table : Members) (g : Game) : Type 0 where
  pub listed : Data
  pub given : Data
  pub manned : Data
  pub attackers : Data
  pub kind : g.kind ≡ Security
  pub no_patrols : g.patrols ≡ None
  pub scale_is : g.scale ≡ pos 0
  pub known : has_only is_resources_key table ≡ true
  pub no_scale : is_some (get_member (codes "scale") table) ≡ false
  pub targets_there : get_member (codes "targets") table ≡ Some listed
  pub schedules_there : get_member (codes "schedule") table ≡ Some given
  pub resources_there : get_member (codes "resource") table ≡ Some manned
  pub types_there : get_member (codes "type") table ≡ Some attackers
  pub targets : names_at place_of.Document place_of.Target 200 listed ≡ Ok g.goals
  pub schedules : schedules_at g.goals given ≡ Ok g.schedules
  pub resources : resources_at g.schedules manned ≡ Ok g.resources
  pub types : security_types_at false (length g.goals) attackers ≡ Ok g.types
  pub whole : scheduled g.goals g.schedules g.resources g.types ≡ g
  pub limits : limits_of (scheduled g.goals g.schedules g.resources g.types) false ≡ Ok tt

listed_file : (table : Members) (g : Game) → resources_game table ≡ Ok g → IsListedFile table g
unfolding resources_game listed_game
listed_file table g h =
    after_test (has_only is_resources_key table) _ _ h (λ e1 h1.
    after (needed_at place_of.Document (codes "targets") table) h1 (λ listed e2 h2.
    after_test (not (is_some (get_member (codes "scale") table))) _ _ h2 (λ e3 h3.
    after (needed_at place_of.Document (codes "schedule") table) h3 (λ given e4 h4.
    after (needed_at place_of.Document (codes "resource") table) h4 (λ manned e5 h5.
    after (needed_at place_of.Document (codes "type") table) h5 (λ attackers e6 h6.
    after (names_at place_of.Document place_of.Target 200 listed) h6 (λ targets e7 h7.
    after (schedules_at targets given) h7 (λ schedules e8 h8.
    after (resources_at schedules manned) h8 (λ resources e9 h9.
    after (security_types_at false (length targets) attackers) h9 (λ types e10 h10.
    let y = scheduled targets schedules resources types in
    after (limits_of y false) h10 (λ u e11 last.
    let same : y ≡ g = cc in
    let is : IsListedFile table y = record {
      listed = listed;
      given = given;
      manned = manned;
      attackers = attackers;
      kind = refl;
      no_patrols = refl;
      scale_is = refl;
      known = e1;
      no_scale = not-true (is_some (get_member (codes "scale") table)) e3;
      targets_there = needed_is (get_member (codes "targets") table) _ _ listed e2;
      schedules_there = needed_is (get_member (codes "schedule") table) _ _ given e4;
      resources_there = needed_is (get_member (codes "resource") table) _ _ manned e5;
      types_there = needed_is (get_member (codes "type") table) _ _ attackers e6;
      targets = e7;
      schedules = e8;
      resources = e9;
      types = e10;
      whole = refl;
      limits = e11;
    } in
    subst (IsListedFile table) same is)))))))))))

-- the version and the form of a document that is in one form
pub record IsHeaded (table : Members) (kind : Kind) : Type 0 where
  pub version : version_of table ≡ Ok tt
  pub form : form_of table ≡ Ok kind

by_patrols : (table : Members) (g : Game) (Goal : Type 0) → ((given : Data) → get_member (codes "patrols") table ≡ Some given → IsPatrolsFile given table g → Goal)
    → (get_member (codes "patrols") table ≡ None → IsListedFile table g → Goal)
    → (o : Option Data) → get_member (codes "patrols") table ≡ o → security_game o table ≡ Ok g → Goal
by_patrols table g Goal with_patrols without (Some given) e h = with_patrols given e (patrols_file given table g h)
by_patrols table g Goal with_patrols without None e h = without e (listed_file table g h)

by_kind : (table : Members) (g : Game) (Goal : Type 0)
    → (IsHeaded table Matrix → IsMatrixFile table g → Goal)
    → (IsHeaded table Security → (given : Data) → get_member (codes "patrols") table ≡ Some given → IsPatrolsFile given table g → Goal)
    → (IsHeaded table Security → get_member (codes "patrols") table ≡ None → IsListedFile table g → Goal)
    → (kind : Kind) → IsHeaded table kind → game_of_form kind table ≡ Ok g → Goal
by_kind table g Goal matrix with_patrols without Matrix head h = matrix head (matrix_file table g h)
by_kind table g Goal matrix with_patrols without Security head h = by_patrols table g Goal (with_patrols head) (without head) (get_member (codes "patrols") table) refl h

-- the document of a game is of one of three kinds
pub by_file : (table : Members) (g : Game) (Goal : Type 0) → game_of_table table ≡ Ok g
    → (IsHeaded table Matrix → IsMatrixFile table g → Goal)
    → (IsHeaded table Security → (given : Data) → get_member (codes "patrols") table ≡ Some given → IsPatrolsFile given table g → Goal)
    → (IsHeaded table Security → get_member (codes "patrols") table ≡ None → IsListedFile table g → Goal)
    → Goal
unfolding game_of_table
by_file table g Goal h matrix with_patrols without =
    after (version_of table) h (λ v e1 h1.
    after (form_of table) h1 (λ kind e2 last.
    by_kind table g Goal matrix with_patrols without kind (record { version = e1; form = e2 }) last))
