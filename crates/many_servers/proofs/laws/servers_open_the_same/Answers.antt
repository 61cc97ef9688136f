use Rattle.many_servers.proofs.OpenLaws.{helper-same, leader-same}
use Rattle.many_servers.proofs.laws.servers_open_the_same.Goals as goal

pub returns-clause-helper : goal.returns-clause-helper
returns-clause-helper c = helper-same

pub returns-clause-leader : goal.returns-clause-leader
returns-clause-leader c = leader-same
