use Rattle.crash.proofs.Stating.{in_points, points_in, points_ascending, in_list, list_in, list_order, list_once}
use Rattle.crash.proofs.list_is_the_states.Goals as goal

pub returns : goal.returns
returns c =
    record {
      upto = λ d p. (in_points d p, points_in d p);
      ascending = points_ascending;
      members = λ d x. (in_list d x, λ h. list_in d x h.0 h.1 h.2);
      order = list_order;
      once = list_once;
    }
