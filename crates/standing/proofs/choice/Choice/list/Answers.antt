use Rattle.std.proofs.Common.{length, ap, ◌∙◌}
use Rattle.std.proofs.lemmas.List.{length-set}
use Rattle.standing.proofs.Listing.{lists_set, counts_set}
use Rattle.standing.proofs.choice.Choice.list.Goals as goal

pub invariant_of-self : goal.invariant_of-self
invariant_of-self c =
    let self = c.args.self.now in
    let few = c.args.candidates in
    record {
      size = length-set self.candidates c.args.sector few ∙ self.size;
      placed = self.placed;
      counted = counts_set self.candidates self.counts c.args.sector few _ self.counted (ap length c.values.ensures.values);
    }

pub returns-clause-lists : goal.returns-clause-lists
returns-clause-lists c = lists_set c.args.self.now.candidates c.args.sector c.args.candidates
