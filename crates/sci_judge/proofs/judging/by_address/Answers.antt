use Rattle.std.proofs.{Common.{ap, ◌∙◌, rules}, lemmas.List.Sorted.{IsNonDecreasingBy-from_sort_by_key, answers_always}}
use Rattle.sci_judge.specs.{declared.access.Access.{Access}, Judgement.{at_address}}
use Rattle.sci_judge.proofs.Runs.{same_at}
use Rattle.sci_judge.proofs.judging.by_address.Goals as goal

pub returns : goal.returns
returns c =
    let address = λ (access : Access). access.address in
    let sorts = c.in_ok-sort_by_key.ensures in
    record {
      rising = IsNonDecreasingBy-from_sort_by_key address _ sorts.sorted (λ a r f called. search rules);
      same = λ k. same_at c.in_ok-sorted.sorted.items c.sort_by_key.new.self.items
          (sorts.stable address (answers_always _ _ _ (λ f a r g called. search rules))) k
          ∙ ap (at_address k) c.in_ok-sorted.ensures.items;
    }
