use Rattle.std.proofs.Common.{◌≡◌, ◌<◌, ◌↔◌, ◌++◌, ℕ, All, length}
use Rattle.std.specs.List.{AllPairs, Contains}
use Rattle.sci_judge.specs.Judgement.{IsExplainedAt, Names, addresses_of}
use Rattle.sci_axe.specs.Parts.{part_of}
use Rattle.sci_axe.proofs.sharing.Share.joined.Given as goal

-- the addresses in the parts so far are explained
abbrev pub invariant-loop-judgement : goal.invariant-loop-judgement
invariant-loop-judgement l = record {
  parted : l.yielded ++ l.judgement-iterator.rest.items ≡ l.fn.judgements.items;
  named : (address : ℕ) → (Names l.self.trace.now address × (part_of l.self.cuts.now address < length l.yielded))
      ↔ Contains (addresses_of l.explained.items) address;
  rising : AllPairs (λ x y. x < y) (addresses_of l.explained.items);
  each : All (IsExplainedAt l.self.way.timed l.self.trace.now) l.explained.items;
}
