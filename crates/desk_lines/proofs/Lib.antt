mod PadLaws
