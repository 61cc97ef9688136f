use Rattle.settings_text.specs.Client.{client_of}
use Rattle.settings_text.specs.ClientSpelling.{SpellsClient, IsBadClientKey}
use Rattle.settings_text.proofs.TextExact.{client_text, judges}
use Rattle.settings_text.proofs.client.read_client.Goals as goal

pub returns-clause-spells : goal.returns-clause-spells
returns-clause-spells c =
    judges client_of SpellsClient IsBadClientKey c.args.text.now (client_text c.args.text.now) c.settings_in.result c.settings_in.ensures.judges
