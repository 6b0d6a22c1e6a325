-- The faults of small documents.
use Rattle.std.proofs.Common.{refl}
use Rattle.sg_model.specs.Names.{is_name}
use Rattle.sg_format.specs.Documents.{name_at, number_at}
use Rattle.sg_format.specs.Lists.{each, few_at, known_at, member_at, members_at, named_at, named_lists_at, names_at, new_name, some_at}
use Rattle.sg_format.specs.Types.{pay_table_at, pays_at, security_type_at, security_types_at}
use Rattle.sg_format.specs.GameFiles.{form_of, game_of_table, limits_of, listed_game, patrols_game, resources_game, scale_at, version_of}
use Rattle.sg_format.specs.FaultExamples.{WorkedFaults}

pub worked : WorkedFaults
unfolding is_name name_at number_at each few_at known_at member_at members_at named_at named_lists_at names_at new_name some_at pay_table_at pays_at security_type_at security_types_at form_of game_of_table limits_of listed_game patrols_game resources_game scale_at version_of
worked = record {
  right = refl;
  same_target = refl;
  spaced_target = refl;
  no_type = refl;
  numbered_type = refl;
  two_types = refl;
  one_row = refl;
  large_payoff = refl;
  odd_scale = refl;
  unhurt_attacker = refl;
  strange_target = refl;
  same_member = refl;
  strange_key = refl;
  no_name = refl;
  target_before_type = refl;
  scale_before_type = refl;
  name_before_prior = refl;
  name_before_members = refl;
  schedule_before_resource = refl;
}
