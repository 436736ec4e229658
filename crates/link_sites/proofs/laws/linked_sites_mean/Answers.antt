use Rattle.link_sites.proofs.Sites.{plain, relative, dynamic, branch, difference, in_got}
use Rattle.link_sites.proofs.Descriptors.{own_descriptor, descriptor}
use Rattle.link_sites.proofs.Calls.{plt}
use Rattle.link_sites.proofs.laws.linked_sites_mean.Goals as goal

pub returns : goal.returns
returns c = record {
  plain = plain;
  relative = relative;
  dynamic = dynamic;
  branch = branch;
  difference = difference;
  in_got = in_got;
  own_descriptor = own_descriptor;
  descriptor = descriptor;
  plt = plt;
}
