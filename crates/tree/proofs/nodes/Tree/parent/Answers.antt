-- A parent's facts are those of the tree.
use Rattle.std.proofs.Common.{rules}
use Rattle.tree.proofs.nodes.Tree.parent.Goals as goal

pub returns-in-Directory-clause-lower : goal.returns-in-Directory-clause-lower
returns-in-Directory-clause-lower c p e l = c.args.self.now.lower c.args.k p l (search rules)

pub returns-in-Directory-clause-directory : goal.returns-in-Directory-clause-directory
returns-in-Directory-clause-directory c p e = c.args.self.now.directories c.args.k p (search rules)
