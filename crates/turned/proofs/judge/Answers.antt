-- The work words are compared with those that are asked for, so that the answer is few exactly if they are fewer.
use Rattle.std.proofs.Common.{refl, arith}
use Rattle.model.proofs.Order.{tree_order}
use Rattle.model.proofs.Prefix.{row_laws}
use Rattle.automata.proofs.Theory.{laws}
use Rattle.signatures.proofs.Telling.{job_laws}
use Rattle.turned.proofs.judge.Goals as goal

pub returns-then-work-judge_words : goal.returns-then-work-judge_words
returns-then-work-judge_words c = record {
  says = refl;
  few = (λ _. refl, λ _. omega arith);
  rows_say_one = row_laws;
  order = tree_order;
  classes = job_laws;
  search = laws;
}

pub returns : goal.returns
returns c = record {
  says = c.judge_with.ensures.says;
  few = (λ h. absurd (omega arith), λ e. absurd (c.judge_with.ensures.large e));
  rows_say_one = row_laws;
  order = tree_order;
  classes = job_laws;
  search = laws;
}
