-- Parts have no fault exactly where they make a game.
use Rattle.std.proofs.Common.{◌↔◌, ◌≡◌, ◌≢◌, ◌∙◌, ℕ, ◌≤◌, ◌^◌, Bool, true, false, cond, ◌&&◌, ◌||◌, List, [], ◌∷◌, length, map, get_or, ℤ, pos, ◌≤ℤ◌, Option, Some, None, Global, string_bytes, refl, ap, subst, sym, arith}
use Rattle.std.specs.Prelude.{int_lt, int_rem, nat_le, is_some, is_none, option_map, Vec}
use Rattle.std.specs.Ordering.{int_eq}
use Rattle.std.specs.List.{All, list_all}
use Rattle.std.proofs.lemmas.Int.{ints}
use Rattle.std.proofs.lemmas.Bool.{leb-true, le-leb, and_from}
use Rattle.std.proofs.lemmas.Bool.Decides.{Decides-int_eq}
use Rattle.std.proofs.lemmas.List.{length-map}
use Rattle.std.proofs.lemmas.List.Elements.{All-map, All-weaker}
use Rattle.std.proofs.lemmas.List.Sums.{AllPass-from_list_all, list_all-from_AllPass}
use Rattle.sg_model.specs.declared.kind.Kind.{Kind}
use Rattle.sg_model.specs.declared.kind.Kind.TheVariants.{Security, Matrix}
use Rattle.sg_model.specs.declared.fault.Place.TheVariants.{Document, Attacker}
use Rattle.sg_model.specs.Games.{Game, Named, Payoff}
use Rattle.sg_model.specs.Games as model
use Rattle.sg_model.specs.Limits.{IsCount, IsWithin, AreLists, AreTypes, IsGame, IsSecurityGame, IsMatrixGame, IsScaledGame, IsSecurityType, IsMatrixType, IsDefended, is_scaled, program_rows}
use Rattle.sg_model.specs.Names.{AreNames}
use Rattle.sg_model.specs.Origami.{IsScaled, gap}
use Rattle.sg_game.specs.declared.parts.Parts.{Parts}
use Rattle.sg_game.specs.declared.parts.TypeParts.{TypeParts}
use Rattle.sg_game.specs.Building.{HasOwnFields, IsAtLeast, IsTold}
use Rattle.sg_game.specs.Faults.{◌orelse◌, fault_of, fields_fault, goal_limit, is_scaled_game, is_scaled_payoff, patrol_limit, prior_limit, type_limit, whole_fault}
use Rattle.sg_game.specs.Seen.{attacker_of, game_of, named_of}
use Rattle.sg_model.specs.Sums.{positive_part}
use Rattle.sg_game.proofs.Steps.{neither, both, holds, fine, and_both}
use Rattle.sg_game.proofs.Listed.{All-unmap}
use Rattle.sg_game.proofs.Fielded.{AreFielded, IsOptionWithin, IsTyped, are-fielded, fielded}
use Rattle.sg_game.proofs.Told.{AreFours, at_least, count_of-within, matrix_from, matrix_to, no_lists, none_is, none_scale, patrol_limit-is, prior_limit-le, scale_range, scale_within, scaled_is, security_from, security_to, some_is, some_scale, within-count_of}
use Rattle.sg_game.proofs.Promises.{by_form, security_game, matrix_game}

-- patrols or lists

abbrev few_patrols : Bool → ℕ
few_patrols b = cond b 200 32

abbrev few_targets : Bool → ℕ
few_targets b = cond b 10000 200

module _ (g : Game) (b : Bool) (same : is_scaled g ≡ b) where
  limit_is : few_patrols (is_scaled g) ≡ few_patrols b
  limit_is = ap few_patrols same

  defended_from : (o : Option ℤ) → IsOptionWithin (pos 0) (patrol_limit b) o → AreLists (length g.goals) 500 200 g.schedules → AreLists (length g.schedules) 32 500 g.resources
      → (o ≢ None → g.schedules ≡ []) → (o ≢ None → g.resources ≡ []) → IsDefended g (option_map positive_part o)
  defended_from None h schedules resources own_schedules own_resources = record { schedules = schedules; resources = resources }
  defended_from (Some z) h schedules resources own_schedules own_resources =
      let some : Some z ≢ None = (λ e. cc) in
      record { few = omega (arith, limit_is, count_of-within z (patrol_limit b) (few_patrols b) (patrol_limit-is b) h); no_schedules = own_schedules some; no_resources = own_resources some }

  defended_within : (o : Option ℤ) → IsAtLeast (pos 0) o → IsDefended g (option_map positive_part o) → IsOptionWithin (pos 0) (patrol_limit b) o
  defended_within None h d = tt
  defended_within (Some z) h d = within-count_of z (patrol_limit b) (few_patrols b) (patrol_limit-is b) h (omega (arith, limit_is, d.few))

  defended_schedules : (o : Option ℤ) → IsDefended g (option_map positive_part o) → AreLists (length g.goals) 500 200 g.schedules
  defended_schedules None d = d.schedules
  defended_schedules (Some z) d = rw (d.no_schedules) (no_lists (length g.goals) 500 200)

  defended_resources : (o : Option ℤ) → IsDefended g (option_map positive_part o) → AreLists (length g.schedules) 32 500 g.resources
  defended_resources None d = d.resources
  defended_resources (Some z) d = rw (d.no_resources) (no_lists (length g.schedules) 32 500)

patrolled_some : (s o : Option ℤ) → is_some s ≡ true → (is_none s || is_some o) ≡ true → option_map positive_part o ≢ None
patrolled_some None o h i = absurd (cc)
patrolled_some (Some z) None h i = absurd (cc)
patrolled_some (Some z) (Some n) h i = (λ e. cc)

patrolled_from : (s o : Option ℤ) → (is_some s ≡ true → option_map positive_part o ≢ None) → (is_none s || is_some o) ≡ true
patrolled_from None o h = refl
patrolled_from (Some z) None h = absurd (h refl refl)
patrolled_from (Some z) (Some n) h = refl

-- payoffs that fit the scale

scaled_payoff : (scale : ℤ) (p : Payoff) → is_scaled_payoff scale p ≡ true → IsScaled scale p
scaled_payoff scale p h =
    let a = and_both (int_lt p.du p.dc && int_lt p.ac p.au) (int_eq (int_rem scale (gap p)) (pos 0)) h in
    let b = and_both (int_lt p.du p.dc) (int_lt p.ac p.au) a.0 in
    record {
      defender_gains = (let q = b.0 in omega (arith, ints, q));
      attacker_loses = (let q = b.1 in omega (arith, ints, q));
      divides = (Decides-int_eq (int_rem scale (gap p)) (pos 0)).0 a.1;
    }

is-scaled_payoff : (scale : ℤ) (p : Payoff) → IsScaled scale p → is_scaled_payoff scale p ≡ true
is-scaled_payoff scale p h =
    let a : int_lt p.du p.dc ≡ true = sym (omega (arith, ints, h.defender_gains)) in
    let b : int_lt p.ac p.au ≡ true = sym (omega (arith, ints, h.attacker_loses)) in
    and_from (int_lt p.du p.dc && int_lt p.ac p.au) (int_eq (int_rem scale (gap p)) (pos 0)) (and_from (int_lt p.du p.dc) (int_lt p.ac p.au) a b) ((Decides-int_eq (int_rem scale (gap p)) (pos 0)).1 h.divides)

abbrev AllScaled : ℤ → model.Attacker → Type 0
AllScaled scale x = All (IsScaled scale) x.payoffs

abbrev passes : ℤ → model.Attacker → Bool
passes scale x = list_all (is_scaled_payoff scale) x.payoffs

all_scaled : (g : Game) → is_scaled_game g ≡ true → All (AllScaled g.scale) g.types
all_scaled g h =
    All-weaker (λ (x : model.Attacker). passes g.scale x ≡ true) (AllScaled g.scale)
    (λ x t. All-weaker (λ (p : Payoff). is_scaled_payoff g.scale p ≡ true) (IsScaled g.scale) (scaled_payoff g.scale) x.payoffs (AllPass-from_list_all (is_scaled_payoff g.scale) x.payoffs t))
    g.types (AllPass-from_list_all (passes g.scale) g.types h)

is-all_scaled : (g : Game) → All (AllScaled g.scale) g.types → is_scaled_game g ≡ true
is-all_scaled g h =
    list_all-from_AllPass (passes g.scale) g.types
    (λ i d lt. list_all-from_AllPass (is_scaled_payoff g.scale) (get_or g.types i d).payoffs
    (All-weaker (IsScaled g.scale) (λ (p : Payoff). is_scaled_payoff g.scale p ≡ true) (is-scaled_payoff g.scale) (get_or g.types i d).payoffs (h i d lt)))

-- limits that depend on the scale

type_limit-le : (b : Bool) → type_limit b ≤ 8
type_limit-le true = omega arith
type_limit-le false = omega arith

same_type_names : (types : List TypeParts) → map (λ (x : model.Attacker). x.name) (map attacker_of types) ≡ map (λ (x : TypeParts). string_bytes x.name) types
same_type_names [] = refl
same_type_names (x ∷ xs) = ap (λ (ns : List (List ℕ)). string_bytes x.name ∷ ns) (same_type_names xs)

module _ (p : Parts) where
  pub types_from : AreFielded p → AreTypes (map attacker_of p.types.items)
  types_from h =
      let n = length-map p.types.items attacker_of in
      let few = type_limit-le (is_some p.scale) in
      record { count = record { at_least = omega (arith, n, h.type_count.at_least); at_most = omega (arith, n, few, h.type_count.at_most) }; names = rw (same_type_names p.types.items) h.type_names }

  pub types_to : AreTypes (map attacker_of p.types.items) → AreNames (map (λ (x : TypeParts). string_bytes x.name) p.types.items)
  types_to h = rw (← same_type_names p.types.items) h.names

  -- a game with a scale
  scaled_game : p.kind ≡ Security → AreFielded p → is_some p.scale ≡ true → whole_fault (is_some p.scale) (game_of p) ≡ None → IsScaledGame (game_of p)
  scaled_game e h on whole =
      let w : whole_fault true (game_of p) ≡ None = subst (λ (c : Bool). whole_fault c (game_of p) ≡ None) on whole in
      let one : length p.types.items ≤ type_limit true = subst (λ (c : Bool). length p.types.items ≤ type_limit c) on h.type_count.at_most in
      let n = length-map p.types.items attacker_of in
      record {
        identical = patrolled_some p.scale p.patrols on h.patrolled;
        one_type = omega (arith, n, one, h.type_count.at_least);
        prior_one = All-map (λ (x : model.Attacker). x.prior ≡ pos 1) attacker_of p.types.items
            (λ i d lt. let prior = (h.types i d lt).prior in
            let high : (get_or p.types.items i d).prior ≤ℤ prior_limit true = subst (λ (c : Bool). (get_or p.types.items i d).prior ≤ℤ prior_limit c) on prior.at_most in
            omega (arith, ints, prior.at_least, high));
        targets = all_scaled (game_of p) (holds (is_scaled_game (game_of p)) 11 (Attacker 1) w);
      }

  -- a game in security form
  security : p.kind ≡ Security → HasOwnFields p → AreFielded p → whole_fault (is_some p.scale) (game_of p) ≡ None → IsSecurityGame (game_of p)
  security e own h whole =
      let b : Bool = is_some p.scale in
      let low = at_least (pos 1) (pos (2 ^ 32)) p.scale h.scale in
      let same : is_scaled (game_of p) ≡ b = scaled_is p.scale low in
      let n = length-map p.goals.items string_bytes in
      let m = length-map p.schedules.items named_of in
      let limit : few_targets (is_scaled (game_of p)) ≡ goal_limit p.kind b = ap few_targets same ∙ sym (ap (λ (k : Kind). goal_limit k b) e) in
      record {
        targets = h.goals;
        target_count = record { at_least = omega (arith, n, h.goal_count.at_least); at_most = omega (arith, n, limit, h.goal_count.at_most) };
        scale_range = scale_range p.scale h.scale;
        defended = defended_from (game_of p) b same p.patrols h.patrols (rw n h.schedules) (rw m h.resources)
            (λ some. ap (map named_of) (own.schedules some)) (λ some. ap (map named_of) (own.resources some));
        types = types_from h;
        each_type = All-map (IsSecurityType (length (game_of p).goals)) attacker_of p.types.items
            (λ i d lt. rw n (security_from (length p.goals.items) (prior_limit b) (get_or p.types.items i d) (prior_limit-le b)
            (subst (λ (k : Kind). IsTyped k (prior_limit b) (length p.goals.items) (get_or p.types.items i d)) e (h.types i d lt)) (own.security e i d lt)));
        few_rows = λ none.
            let off : b ≡ false = none_is p.scale low none in
            let w : whole_fault false (game_of p) ≡ None = subst (λ (c : Bool). whole_fault c (game_of p) ≡ None) off whole in
            leb-true (program_rows (game_of p)) 1536 (holds (nat_le (program_rows (game_of p)) 1536) 10 Document w);
        scaled = λ some. scaled_game e h (some_is p.scale some) whole;
      }

  -- a game in matrix form
  matrix : p.kind ≡ Matrix → HasOwnFields p → AreFielded p → whole_fault (is_some p.scale) (game_of p) ≡ None → IsMatrixGame (game_of p)
  matrix e own h whole =
      let mine = own.matrix e in
      let off : is_some p.scale ≡ false = ap (λ (o : Option ℤ). is_some o) mine.scale in
      let n = length-map p.goals.items string_bytes in
      let limit : goal_limit p.kind (is_some p.scale) ≡ 4096 = ap (λ (k : Kind). goal_limit k (is_some p.scale)) e in
      let w : whole_fault false (game_of p) ≡ None = subst (λ (c : Bool). whole_fault c (game_of p) ≡ None) off whole in
      record {
        rows = h.goals;
        row_count = record { at_least = omega (arith, n, h.goal_count.at_least); at_most = omega (arith, n, limit, h.goal_count.at_most) };
        no_scale = none_scale p.scale off;
        no_patrols = ap (option_map positive_part) mine.patrols;
        no_schedules = ap (map named_of) mine.schedules;
        no_resources = ap (map named_of) mine.resources;
        types = types_from h;
        each_type = All-map (IsMatrixType (length (game_of p).goals)) attacker_of p.types.items
            (λ i d lt. rw n (matrix_from (length p.goals.items) (prior_limit (is_some p.scale)) (get_or p.types.items i d) (prior_limit-le (is_some p.scale))
            (subst (λ (k : Kind). IsTyped k (prior_limit (is_some p.scale)) (length p.goals.items) (get_or p.types.items i d)) e (h.types i d lt)) (mine.payoffs i d lt)));
        few_rows = leb-true (program_rows (game_of p)) 1536 (holds (nat_le (program_rows (game_of p)) 1536) 10 Document w);
      }

  -- parts with no fault make a game
  pub makes_game : HasOwnFields p → AreFielded p → whole_fault (is_some p.scale) (game_of p) ≡ None → IsGame (game_of p)
  makes_game own h whole = by_kind p.kind refl
    where
      by_kind : (k : Kind) → p.kind ≡ k → IsGame (game_of p)
      by_kind Security e = security_game (game_of p) e (security e own h whole)
      by_kind Matrix e = matrix_game (game_of p) e (matrix e own h whole)

  -- the game of such parts says all that they say
  pub told : HasOwnFields p → AreFielded p → IsTold p
  told own h = record {
    scale = at_least (pos 1) (pos (2 ^ 32)) p.scale h.scale;
    patrols = at_least (pos 0) (patrol_limit (is_some p.scale)) p.patrols h.patrols;
    payoffs = by_kind p.kind refl;
  }
    where
      by_kind : (k : Kind) → p.kind ≡ k → All (λ (x : TypeParts). AreFours x.payoffs.items) p.types.items
      by_kind Security e = λ i d lt.
          let x : TypeParts = get_or p.types.items i d in
          All-unmap (λ (row : List ℤ). length row ≡ 4) (λ (v : Vec ℤ Global). v.items) x.payoffs.items
          (subst (λ (k : Kind). IsTyped k (prior_limit (is_some p.scale)) (length p.goals.items) x) e (h.types i d lt)).pays.columns
      by_kind Matrix e = λ i d lt. subst AreFours (sym ((own.matrix e).payoffs i d lt)) (λ j q within. absurd (omega arith))

  -- the priors, where a scale is there or not
  prior_high : is_scaled (game_of p) ≡ is_some p.scale → (pos 1 ≤ℤ (game_of p).scale → All (λ (x : model.Attacker). x.prior ≡ pos 1) (map attacker_of p.types.items)) → IsAtLeast (pos 1) p.scale
      → All (λ (x : model.Attacker). IsWithin (pos 1) (pos (2 ^ 20)) x.prior) (map attacker_of p.types.items) → All (λ (x : TypeParts). x.prior ≤ℤ prior_limit (is_some p.scale)) p.types.items
  prior_high same one low each = by_bool (is_some p.scale) refl
    where
      by_bool : (b : Bool) → is_some p.scale ≡ b → All (λ (x : TypeParts). x.prior ≤ℤ prior_limit b) p.types.items
      by_bool true e = λ i d lt. omega (arith, ints, All-unmap (λ (x : model.Attacker). x.prior ≡ pos 1) attacker_of p.types.items (one (some_scale p.scale low e)) i d lt)
      by_bool false e = λ i d lt. (All-unmap (λ (x : model.Attacker). IsWithin (pos 1) (pos (2 ^ 20)) x.prior) attacker_of p.types.items each i d lt).at_most

  -- from one type to the limit
  few_types : IsAtLeast (pos 1) p.scale → IsCount 1 8 (length (map attacker_of p.types.items)) → (pos 1 ≤ℤ (game_of p).scale → length (map attacker_of p.types.items) ≡ 1) → IsCount 1 (type_limit (is_some p.scale)) (length p.types.items)
  few_types low count one = by_bool (is_some p.scale) refl
    where
      by_bool : (b : Bool) → is_some p.scale ≡ b → IsCount 1 (type_limit b) (length p.types.items)
      by_bool true e = let n = length-map p.types.items attacker_of in record { at_least = omega (arith, n, count.at_least); at_most = omega (arith, n, one (some_scale p.scale low e)) }
      by_bool false e = let n = length-map p.types.items attacker_of in record { at_least = omega (arith, n, count.at_least); at_most = omega (arith, n, count.at_most) }

  -- the parts of a game in security form break no rule
  security_fields : p.kind ≡ Security → IsTold p → IsSecurityGame (game_of p) → AreFielded p
  security_fields e t s =
      let b : Bool = is_some p.scale in
      let same : is_scaled (game_of p) ≡ b = scaled_is p.scale t.scale in
      let n = length-map p.goals.items string_bytes in
      let m = length-map p.schedules.items named_of in
      let limit : few_targets (is_scaled (game_of p)) ≡ goal_limit p.kind b = ap few_targets same ∙ sym (ap (λ (k : Kind). goal_limit k b) e) in
      let priors = prior_high same (λ some. (s.scaled some).prior_one) t.scale (λ i d lt. (s.each_type i d lt).prior) in
      let each = All-unmap (IsSecurityType (length (game_of p).goals)) attacker_of p.types.items s.each_type in
      record {
        patrolled = patrolled_from p.scale p.patrols (λ some. (s.scaled (some_scale p.scale t.scale some)).identical);
        goal_count = record { at_least = omega (arith, n, s.target_count.at_least); at_most = omega (arith, n, limit, s.target_count.at_most) };
        goals = s.targets;
        scale = scale_within p.scale t.scale s.scale_range;
        patrols = defended_within (game_of p) b same p.patrols t.patrols s.defended;
        schedules = rw n at (defended_schedules (game_of p) b same p.patrols s.defended);
        resources = rw m at (defended_resources (game_of p) b same p.patrols s.defended);
        type_count = few_types t.scale s.types.count (λ some. (s.scaled some).one_type);
        type_names = types_to s.types;
        types = λ i d lt.
            subst (λ (k : Kind). IsTyped k (prior_limit b) (length p.goals.items) (get_or p.types.items i d)) (sym e)
            (security_to (length p.goals.items) (prior_limit b) (get_or p.types.items i d) (priors i d lt) (t.payoffs i d lt) (rw n at (each i d lt)));
      }

  -- the parts of a game in matrix form break no rule
  matrix_fields : p.kind ≡ Matrix → HasOwnFields p → IsTold p → IsMatrixGame (game_of p) → AreFielded p
  matrix_fields e own t s =
      let mine = own.matrix e in
      let b : Bool = is_some p.scale in
      let off : b ≡ false = ap (λ (o : Option ℤ). is_some o) mine.scale in
      let same : is_scaled (game_of p) ≡ b = scaled_is p.scale t.scale in
      let n = length-map p.goals.items string_bytes in
      let limit : goal_limit p.kind b ≡ 4096 = ap (λ (k : Kind). goal_limit k b) e in
      let never : (pos 1 ≤ℤ (game_of p).scale) → ⊥ = (λ some. omega (arith, ints, some, s.no_scale)) in
      let priors = prior_high same (λ some. absurd (never some)) t.scale (λ i d lt. (s.each_type i d lt).prior) in
      let each = All-unmap (IsMatrixType (length (game_of p).goals)) attacker_of p.types.items s.each_type in
      record {
        patrolled = patrolled_from p.scale p.patrols (λ some. absurd (let q : true ≡ false = sym some ∙ off in cc));
        goal_count = record { at_least = omega (arith, n, s.row_count.at_least); at_most = omega (arith, n, limit, s.row_count.at_most) };
        goals = s.rows;
        scale = subst (IsOptionWithin (pos 1) (pos (2 ^ 32))) (sym mine.scale) tt;
        patrols = subst (IsOptionWithin (pos 0) (patrol_limit b)) (sym mine.patrols) tt;
        schedules = rw mine.schedules (no_lists (length p.goals.items) 500 200);
        resources = rw mine.resources (no_lists (length p.schedules.items) 32 500);
        type_count = few_types t.scale s.types.count (λ some. absurd (never some));
        type_names = types_to s.types;
        types = λ i d lt.
            subst (λ (k : Kind). IsTyped k (prior_limit b) (length p.goals.items) (get_or p.types.items i d)) (sym e)
            (matrix_to (length p.goals.items) (prior_limit b) (get_or p.types.items i d) (priors i d lt) (rw n at (each i d lt)));
      }

  -- a game as a whole breaks no rule
  whole_from : (b : Bool) → (b ≡ true → All (AllScaled (game_of p).scale) (game_of p).types) → (b ≡ false → program_rows (game_of p) ≤ 1536) → whole_fault b (game_of p) ≡ None
  whole_from true scaled few = fine (is_scaled_game (game_of p)) 11 (Attacker 1) (is-all_scaled (game_of p) (scaled refl))
  whole_from false scaled few = fine (nat_le (program_rows (game_of p)) 1536) 10 Document (le-leb (program_rows (game_of p)) 1536 (few refl))

  no_fault : HasOwnFields p → IsTold p → IsGame (game_of p) → fault_of p ≡ None
  unfolding fault_of
  no_fault own t h =
      by_form (game_of p) ((fields_fault p orelse whole_fault (is_some p.scale) (game_of p)) ≡ None) h
      (λ e s. both (fields_fault p) (whole_fault (is_some p.scale) (game_of p)) (are-fielded p (security_fields e t s))
      (whole_from (is_some p.scale) (λ on. (s.scaled (some_scale p.scale t.scale on)).targets) (λ off. s.few_rows (none_scale p.scale off))))
      (λ e m. both (fields_fault p) (whole_fault (is_some p.scale) (game_of p)) (are-fielded p (matrix_fields e own t m))
      (whole_from (is_some p.scale) (λ on. absurd (let q : is_some p.scale ≡ false = ap (λ (o : Option ℤ). is_some o) (own.matrix e).scale in let r : true ≡ false = sym on ∙ q in cc)) (λ off. m.few_rows)))

  -- a game that says all that its parts say, exactly where they have no fault
  pub fault_of-none : HasOwnFields p → (fault_of p ≡ None) ↔ (IsTold p × IsGame (game_of p))
  unfolding fault_of
  fault_of-none own = (
    (λ h. let q = neither (fields_fault p) (whole_fault (is_some p.scale) (game_of p)) h in let f = fielded p q.0 in (told own f, makes_game own f q.1)),
    (λ h. no_fault own h.0 h.1),
  )
