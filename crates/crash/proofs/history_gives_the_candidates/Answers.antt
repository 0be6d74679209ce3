use Rattle.std.proofs.Common.{map, sym, ap, ◌∙◌}
use Rattle.crash.specs.Rules.{written}
use Rattle.crash.specs.Lists.{distinct}
use Rattle.crash.specs.States.{numbers, candidates, candidate_numbers}
use Rattle.crash.proofs.Numbering.{in_candidate_numbers, candidate_numbers_in, candidate_numbers_ascending}
use Rattle.crash.proofs.Walking.{walk_map, walk_numbers}
use Rattle.crash.proofs.Repeating.{map_firsts}
use Rattle.crash.proofs.history_gives_the_candidates.Goals as goal

pub returns : goal.returns
unfolding candidates candidate_numbers
returns c =
    record {
      gathered = λ d p s. walk_numbers d s p;
      contents = λ d p s. walk_map d s (written d s) p ∙ ap (map (written d s)) (walk_numbers d s p);
      unrepeated = λ d p s. ap distinct (sym (walk_map d s (written d s) p ∙ ap (map (written d s)) (walk_numbers d s p)));
      numbered = λ d p s. sym (map_firsts (written d s) (numbers d p s));
      lowest = λ d p s j. (in_candidate_numbers d p s j, λ h. candidate_numbers_in d p s j h.0 h.1);
      climbing = candidate_numbers_ascending;
    }
