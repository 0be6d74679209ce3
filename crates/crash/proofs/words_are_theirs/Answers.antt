use Rattle.std.proofs.Common.{◌<◌}
use Rattle.crash.proofs.Members.{place_of}
use Rattle.crash.proofs.Wording.{place_in, once_apart, apart_once, order_each, each_order, within_each, each_within, before_place, place_before}
use Rattle.crash.proofs.words_are_theirs.Goals as goal

pub returns : goal.returns
returns c =
    record {
      stands = λ x xs. (place_of x xs 0, λ q. place_in x xs q.0 q.1 q.2);
      once = λ xs. (once_apart xs, apart_once xs);
      ascending = λ xs. (order_each (λ j k. j < k) 0 xs, each_order (λ j k. j < k) 0 xs);
      within = λ counts places. (within_each counts places, λ q. each_within counts places q.0 q.1);
      before = λ a b. (before_place a b, λ q. place_before a b q.0 q.1 q.2 q.3 q.4);
    }
