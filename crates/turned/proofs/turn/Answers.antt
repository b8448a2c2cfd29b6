-- The work words are compared with those that are asked for, so that the answer is small exactly if they are fewer.
use Rattle.std.proofs.Common.{refl, arith}
use Rattle.model.proofs.Prefix.{row_laws}
use Rattle.turned.proofs.FilledIn.{filling_laws}
use Rattle.turned.proofs.turn.Goals as goal

pub returns-then-work-turn_words : goal.returns-then-work-turn_words
returns-then-work-turn_words c = record {
  says = refl;
  small = (λ _. refl, λ _. omega arith);
  rows_say_one = row_laws;
  filling = filling_laws;
}

pub returns : goal.returns
returns c = record {
  says = c.turn_with.ensures.says;
  small = (λ h. absurd (omega arith), λ e. absurd (c.turn_with.ensures.large e));
  rows_say_one = row_laws;
  filling = filling_laws;
}
