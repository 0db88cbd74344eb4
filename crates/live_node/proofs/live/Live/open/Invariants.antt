use Rattle.live_node.proofs.live.Live.open.Given as goal

abbrev pub ghost-made : goal.ghost-made
ghost-made g a = record { shelf = a.hub.shelf.value; set = a.rest.set; state = a.state.now.value }
