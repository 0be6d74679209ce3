-- A home that fails fails them all.
use Rattle.std.proofs.Common.{length, ap, ◌∙◌, arith, rules}
use Rattle.std.proofs.lemmas.List.FromFn.{length-map-range_with_len}
use Rattle.journalled.specs.Below.{every_none}
use Rattle.journalled.specs.Journal.{home_in}
use Rattle.journalled.proofs.Naming.{no_home, same_home, all_stand, all_kept}
use Rattle.journalled.proofs.descriptor.read_homes.Goals as goal

pub loop-i-init : goal.loop-i-init
loop-i-init c = record { kept = c.new-homes.ensures; stand = every_none _ }

pub returns-in_err-home : goal.returns-in_err-home
returns-in_err-home c =
    let i = c.loop-i.invariant in
    let fails = no_home c.args.count c.loop-i.i c.args.sector.now c.loop-i.homes.items i.kept i.stand c.word_at.result c.word_at.ensures c.args.size (omega arith) in
    search (rules, fails)

pub returns-then-contains : goal.returns-then-contains
returns-then-contains c =
    let i = c.loop-i.invariant in
    same_home c.args.count c.loop-i.i c.args.sector.now c.loop-i.homes.items i.kept i.stand c.word_at.result c.word_at.ensures c.in_ok-home.home (search rules) c.args.size (omega arith) (search rules)

pub push-requires : goal.push-requires
push-requires c =
    let few = ap length c.loop-i.invariant.kept ∙ length-map-range_with_len (home_in c.args.sector.now) 0 c.loop-i.i in
    (omega arith, omega arith)

pub loop-i-preserved : goal.loop-i-preserved
loop-i-preserved c =
    let i = c.loop-i.invariant in
    record {
      kept = c.push.ensures.items ∙ all_kept c.args.count c.loop-i.i c.args.sector.now c.loop-i.homes.items i.kept i.stand c.word_at.result c.word_at.ensures c.in_ok-home.home (search rules);
      stand = all_stand c.args.count c.loop-i.i c.args.sector.now c.loop-i.homes.items i.kept i.stand c.word_at.result c.word_at.ensures c.in_ok-home.home (search rules) (search rules);
    }
