mod SlotLaws
