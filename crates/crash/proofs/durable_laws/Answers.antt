use Rattle.crash.proofs.Durability.{durable_decides, durable_upto, durable_later, durable_by_flush, durable_before, durable_at_once, at_once_by_fua, by_flush_alone, flush_durable}
use Rattle.crash.proofs.durable_laws.Goals as goal

pub returns : goal.returns
returns c =
    record {
      test = durable_decides;
      upto = durable_upto;
      later = durable_later;
      by_flush = durable_by_flush;
      without_flush = durable_before;
      at_once = λ d p. (at_once_by_fua d p, durable_at_once d p);
      without_fua = λ d p k f. (by_flush_alone d p k f, flush_durable d p k);
    }
